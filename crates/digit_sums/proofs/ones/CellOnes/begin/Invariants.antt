use Rattle.std.proofs.Common.{◌≡◌, ℕ, ◌<◌, length, slice_get, Some}
use Rattle.digit_sums.proofs.ones.CellOnes.begin.Given as goal

abbrev pub invariant-loop-cell : goal.invariant-loop-cell
invariant-loop-cell l = record {
  count : length l.self-inside.bits.items ≡ length l.initial.self-inside.bits.items;
  count_highs : length l.self-inside.highs.items ≡ length l.initial.self-inside.highs.items;
  done : (k : ℕ) → k < l.cell → slice_get l.self-inside.bits.items k ≡ Some (record { ones = 0; at_top = 0 });
  done_highs : (k : ℕ) → k < l.cell → slice_get l.self-inside.highs.items k ≡ Some 0;
}
