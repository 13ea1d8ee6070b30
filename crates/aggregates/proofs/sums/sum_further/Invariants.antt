use Rattle.std.proofs.Common.{◌≡◌, ◌-◌}
use Rattle.aggregates.proofs.EndSums.{sum_short}
use Rattle.aggregates.proofs.sums.sum_further.Given as goal

abbrev pub invariant-loop-j : goal.invariant-loop-j
invariant-loop-j l = l.sum ≡ sum_short l.known l.mask (l.known.known.read - l.j)
