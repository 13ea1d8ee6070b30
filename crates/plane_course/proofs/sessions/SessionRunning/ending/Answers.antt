-- The session ends where the course does; where it goes on, the policy chooses a column.
use Rattle.std.proofs.Common.{◌∙◌, ap}
use Rattle.table_rounds.proofs.SessionOutlooks.{choice_of}
use Rattle.table_rounds.specs.Steps.{ending_in}
use Rattle.plane_course.proofs.Stepping.{none_then}
use Rattle.plane_course.proofs.sessions.SessionRunning.ending.Goals as goal

pub returns-clause-ending : goal.returns-clause-ending
returns-clause-ending c = λ first head bits reads after. c.session_ending.ensures.ending ∙ ap (ending_in c.args.plan.now) after.is

pub returns-clause-choice : goal.returns-clause-choice
returns-clause-choice c = λ first head bits reads fits after.
    none_then c.session_ending.result (λ unread. choice_of c.policies_choose.ensures c.args.plan.now.policy c.args.self.now c.requires unread) (c.session_ending.ensures.unread head fits)
