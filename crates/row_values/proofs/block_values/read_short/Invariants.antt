use Rattle.std.proofs.Common.{◌≡◌, length, Some, slice_get}
use Rattle.interval_calc.specs.Intervals as wide
use Rattle.row_values.specs.declared.short.ShortInterval.{ShortInterval}
use Rattle.row_values.specs.ShortSpans.{interval_of}
use Rattle.row_values.proofs.BlockRows.{HoldsBelow}
use Rattle.row_values.proofs.block_values.read_short.Given as goal

abbrev pub invariant-loop-i : goal.invariant-loop-i
invariant-loop-i l = record {
  count : length l.spans ≡ 64;
  rows : HoldsBelow (λ r span. (short : ShortInterval) → slice_get l.shorts r ≡ Some short → wide.interval_of span ≡ interval_of short) l.i l.spans;
}
