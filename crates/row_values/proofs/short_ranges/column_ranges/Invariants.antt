use Rattle.std.proofs.Common.{◌+◌, ◌*◌}
use Rattle.row_values.specs.ShortSpans.{IsShortRange}
use Rattle.row_values.proofs.BlockRows.{HoldsBelow}
use Rattle.row_values.proofs.short_ranges.column_ranges.Given as goal

abbrev pub invariant-loop-i : goal.invariant-loop-i
invariant-loop-i l = HoldsBelow (λ r span. IsShortRange l.known (64 * l.block + r) span) l.i l.spans
