use Rattle.std.proofs.Common.{◌≤◌}
use Rattle.aggregates.proofs.sums.is_dense.Given as goal

abbrev pub invariant-loop-block : goal.invariant-loop-block
invariant-loop-block l = l.used ≤ l.block
