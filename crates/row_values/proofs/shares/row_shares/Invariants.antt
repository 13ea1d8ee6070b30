use Rattle.std.proofs.Common.{ℕ}
use Rattle.std.specs.declared.option.Option.{Option}
use Rattle.query_model.specs.Bounds.{Pair}
use Rattle.row_values.specs.BlockSums.{given, AreShares, AreWithin, Give}
use Rattle.row_values.proofs.shares.row_shares.Given as goal

abbrev pub invariant-loop-i : goal.invariant-loop-i
invariant-loop-i l = record {
  within : AreWithin l.i l.shares;
  shares : (give : ℕ → Option Pair) → Give give l.may l.must l.count l.spans → AreShares (given give l.i) l.shares;
}
