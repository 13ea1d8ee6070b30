use Rattle.std.proofs.Common.{ℕ}
use Rattle.std.specs.declared.option.Option.{Option}
use Rattle.query_model.specs.Bounds.{Pair}
use Rattle.row_values.specs.BlockSums.{given, AreShares, AreWithin, Give}
use Rattle.row_values.proofs.BlockSums.{sure_rows}
use Rattle.row_values.proofs.shares.whole_shares.Given as goal

abbrev pub invariant-loop-i : goal.invariant-loop-i
invariant-loop-i l = record {
  within : AreWithin l.i (sure_rows l.i l.shares.low l.shares.high);
  shares : (give : ℕ → Option Pair) → Give give 18446744073709551615 18446744073709551615 64 l.spans → AreShares (given give l.i) (sure_rows l.i l.shares.low l.shares.high);
}
