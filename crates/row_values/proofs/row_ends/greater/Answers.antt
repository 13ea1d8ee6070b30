use Rattle.std.proofs.Common.{sym, ◌∙◌, arith}
use Rattle.std.proofs.lemmas.Int.{ints, clamps}
use Rattle.aggregates.proofs.Appending.{next_greatest}
use Rattle.row_values.proofs.row_ends.greater.Goals as goal

pub returns-in-Some : goal.returns-in-Some
returns-in-Some c = λ xs e. next_greatest xs c.in-Some.greatest c.args.span.hi _ (sym c.in-Some.is ∙ e) (omega (arith, ints, clamps, c.max.ensures.value))
