use Rattle.std.proofs.Common.{None, Some, ap, sym, ◌∙◌, arith, if◌then◌else◌}
use Rattle.std.proofs.lemmas.Int.{ints, clamps}
use Rattle.aggregates.proofs.Appending.{next_least}
use Rattle.aggregates.proofs.cell_sums.lesser_if.Goals as goal

pub returns-else-none-clause-kept : goal.returns-else-none-clause-kept
returns-else-none-clause-kept c = λ kept xs e.
    next_least xs c.args.earlier c.args.number _ (ap (λ b. if b then None else Some c.args.earlier) (sym c.if-none.false) ∙ e) (omega (arith, ints, clamps, c.min.ensures.value))
