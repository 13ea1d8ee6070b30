-- The session's progress tells a policy what the session does.
use Rattle.table_rounds.proofs.SessionOutlooks.{tells}
use Rattle.plane_course.proofs.sessions.SessionRunning.progress.Goals as goal

pub returns : goal.returns
returns c = tells c.args.self.now c.progress.result c.progress.ensures.progress
