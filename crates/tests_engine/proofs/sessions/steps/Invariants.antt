use Rattle.std.proofs.Common.{◌≡◌, length}
use Rattle.tests_engine.proofs.sessions.steps.Given as goal

abbrev pub invariant-loop-i : goal.invariant-loop-i
invariant-loop-i l = record {
  rows : l.session.rows ≡ 4;
  queries : length l.session.stages ≡ 3;
  plane : length l.plane ≡ 4;
}
