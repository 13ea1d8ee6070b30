use Rattle.std.proofs.Common.{◌≡◌}
use Rattle.tests_engine.proofs.signed.follow.Given as goal

abbrev pub invariant-loop-at : goal.invariant-loop-at
invariant-loop-at l = l.engine.frame.rows ≡ 6
