use Rattle.std.proofs.Common.{take, IsTrue}
use Rattle.std.specs.List.{list_all}
use Rattle.round_engine.specs.Narrowness.{is_narrow}
use Rattle.plane_course.proofs.sessions.any_wide.Given as goal

abbrev pub invariant-loop-query : goal.invariant-loop-query
invariant-loop-query l = IsTrue (list_all (is_narrow l.session.near) (take l.query l.session.stages))
