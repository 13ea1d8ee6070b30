use Rattle.std.proofs.Common.{◌≡◌, length}
use Rattle.aggregates.proofs.cell_sums.CellSums.open.Given as goal

abbrev pub invariant-loop : goal.invariant-loop
invariant-loop l = length l.sums.items ≡ l.counter
