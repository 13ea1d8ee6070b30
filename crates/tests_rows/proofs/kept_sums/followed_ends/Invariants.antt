use Rattle.std.proofs.Common.{length}
use Rattle.aggregates.specs.KeptSums.{IsKept, MovesAnywhere}
use Rattle.tests_rows.proofs.kept_sums.followed_ends.Given as goal

abbrev pub invariant-loop : goal.invariant-loop
invariant-loop l = IsKept l.known l.kept × MovesAnywhere (length l.kept.mask) l.kept
