use Rattle.std.proofs.Common.{true, false, ◌∙◌}
use Rattle.std.proofs.lemmas.Option.{get_or_from_slice_get}
use Rattle.plane_kernels.proofs.RemainingRows.{kept_none, kept_part, none_to_keep, not_true, parts_agree}
use Rattle.plane_kernels.proofs.remaining.has_one_in.Goals as goal

pub returns-then-not-get : goal.returns-then-not-get
returns-then-not-get c = λ e.
    none_to_keep c.args.block true c.args.rows.now c.args.plane.now c.requires.plane
    (c.requires.blocks.none c.args.block (get_or_from_slice_get c.args.blocks.now c.args.block c.get.result false c.get.ensures ∙ c.if-not-get.true))

pub with_bit-kept-requires : goal.with_bit-kept-requires
with_bit-kept-requires c = parts_agree c.args.block c.args.rows.now c.args.plane.now c.of_mask.result c.of_plane.result c.of_mask.ensures c.of_plane.ensures c.requires.plane

pub returns : goal.returns
returns c = λ e.
    kept_none c.args.block true c.args.rows.now c.args.plane.now c.with_bit-kept.result
    (kept_part c.args.block true c.args.rows.now c.args.plane.now c.of_mask.result c.of_plane.result c.with_bit-kept.result c.requires.plane c.of_mask.ensures c.of_plane.ensures c.with_bit-kept.ensures)
    (c.is_empty.ensures (not_true _ e))
