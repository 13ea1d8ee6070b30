use Rattle.std.proofs.Common.{◌≡◌, length}
use Rattle.aggregates.proofs.cell_counts.CellCounts.open.Given as goal

abbrev pub invariant-loop : goal.invariant-loop
invariant-loop l = length l.counts.items ≡ l.counter
