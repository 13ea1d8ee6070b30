use Rattle.std.proofs.Common.{◌≡◌, List, Bool, true, false, get_or, sym, subst, ◌∙◌}
use Rattle.std.proofs.lemmas.Option.{get_or_from_slice_get}
use Rattle.kleene_filter.specs.Filters.{AreSettled}
use Rattle.kleene_filter.proofs.Judged.{is_settled, same_rows}
use Rattle.kleene_filter.proofs.truth_masks.settle_block.Goals as goal

pub returns-then-are_decided-clause-settled : goal.returns-then-are_decided-clause-settled
returns-then-are_decided-clause-settled c =
    let masks = c.args.masks.now in
    let settled = c.requires.settled in
    let on : get_or c.args.undecided.now c.args.block false ≡ true = get_or_from_slice_get c.args.undecided.now c.args.block c.get.result false c.get.ensures ∙ c.if-get.true in
    subst (λ (l : List Bool). AreSettled masks.must masks.may l) (sym c.set.ensures)
    (is_settled c.args.block masks.must masks.may c.args.undecided.now (record { room = settled.room; tight = settled.tight; is = on; same = λ block j h apart off. settled.same block j h off })
    (same_rows c.args.block masks.must masks.may c.rows_in.result.certain c.rows_in.result.possible c.rows_in.ensures.certain c.rows_in.ensures.possible c.requires.rows (c.are_decided.ensures c.if-are_decided.true)))
