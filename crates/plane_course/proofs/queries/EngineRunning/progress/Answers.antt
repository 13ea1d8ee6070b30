-- The engine's progress tells a policy what its stage does.
use Rattle.std.proofs.Common.{subst}
use Rattle.round_engine.specs.Stages.{Stage}
use Rattle.table_rounds.proofs.Outlooks.{tells}
use Rattle.table_rounds.specs.Courses.{Tells}
use Rattle.table_rounds.specs.Rounds.{outlook_at}
use Rattle.plane_course.proofs.queries.EngineRunning.progress.Goals as goal

pub returns : goal.returns
returns c = subst (λ (s : Stage). Tells (outlook_at s) c.progress.result) c.view.ensures (tells c.view.result c.progress.result c.progress.ensures)
