use Rattle.std.proofs.Common.{sum}
use Rattle.plane_schedule.specs.Choices.{IsSound}
use Rattle.tests_engine.proofs.schedules.rounds.Given as goal

abbrev pub invariant-loop-column : goal.invariant-loop-column
invariant-loop-column g l = IsSound l.progress

abbrev pub decreases-loop-column : goal.decreases-loop-column
decreases-loop-column g l = sum l.progress.unread
