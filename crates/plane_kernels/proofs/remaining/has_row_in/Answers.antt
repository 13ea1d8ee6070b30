use Rattle.std.proofs.Common.{◌*◌, false, length, get_or, sym, ap, ◌∙◌}
use Rattle.std.proofs.lemmas.Option.{get_or_from_slice_get}
use Rattle.std.proofs.lemmas.Simd.{get_or-chunk}
use Rattle.plane_kernels.proofs.RemainingRows.{none_at, not_true}
use Rattle.plane_kernels.proofs.remaining.has_row_in.Goals as goal

pub returns-then-not-get : goal.returns-then-not-get
returns-then-not-get c = λ e. c.requires.blocks.none c.args.block (get_or_from_slice_get c.args.blocks.now c.args.block c.get.result false c.get.ensures ∙ c.if-not-get.true)

pub returns : goal.returns
returns c = λ e j h.
    let part = c.of_mask.result in
    sym (get_or-chunk (512 * c.args.block) 512 c.args.rows.now j false h) ∙ ap (λ l. get_or l j false) (sym c.of_mask.ensures ∙ c.is_empty.ensures (not_true _ e)) ∙ none_at (length part) j
