use Rattle.std.proofs.Common.{◌≡◌, ℕ}
use Rattle.std.specs.declared.option.Option.{Option}
use Rattle.std.specs.Int.Bits.{bit_and}
use Rattle.query_model.specs.Bounds.{Pair}
use Rattle.row_values.specs.BlockSums.{given, AreShares, AreWithin, Give}
use Rattle.row_values.proofs.BlockSums.{sure_rows}
use Rattle.row_values.proofs.shares.sure_shares.Given as goal

abbrev pub invariant-loop-i : goal.invariant-loop-i
invariant-loop-i l = record {
  within : AreWithin l.i (sure_rows l.shares.all l.shares.low l.shares.high);
  shares : (give : ℕ → Option Pair) (must : ℕ) → bit_and l.rows must ≡ l.rows → Give give l.rows must l.count l.spans →
      AreShares (given give l.i) (sure_rows l.shares.all l.shares.low l.shares.high);
}
