use Rattle.std.proofs.Common.{◌≡◌, ℕ, ℤ, List, ◌++◌}
use Rattle.std.specs.declared.option.Option.{Option}
use Rattle.query_model.specs.declared.query.ItemKind.TheVariants.{Min}
use Rattle.query_model.specs.Answers.{answer}
use Rattle.query_model.specs.Bounds.{lows, Pair}
use Rattle.row_values.specs.BlockSums.{given, Give}
use Rattle.row_values.proofs.row_ends.least_low.Given as goal

abbrev pub invariant-loop-i : goal.invariant-loop-i
invariant-loop-i l = (give : ℕ → Option Pair) (must : ℕ) → Give give l.may must l.count l.spans → (xs : List ℤ) → l.fn.earlier ≡ answer Min xs → l.least ≡ answer Min (xs ++ lows (given give l.i))
