use Rattle.std.proofs.Common.{sym, ◌∙◌, arith}
use Rattle.std.proofs.lemmas.Int.{ints, clamps}
use Rattle.aggregates.proofs.Appending.{next_least}
use Rattle.row_values.proofs.row_ends.lesser.Goals as goal

pub returns-in-Some : goal.returns-in-Some
returns-in-Some c = λ xs e. next_least xs c.in-Some.least c.args.span.lo _ (sym c.in-Some.is ∙ e) (omega (arith, ints, clamps, c.min.ensures.value))
