-- The rounds end where the course does; where they go on, the policy chooses a column.
use Rattle.std.proofs.Common.{◌∙◌, ap, subst, IsNone}
use Rattle.table_rounds.proofs.QueryCourse.{chooses}
use Rattle.table_rounds.specs.Rounds.{ending_at}
use Rattle.plane_course.proofs.Stepping.{if_none}
use Rattle.plane_course.proofs.queries.EngineRunning.ending.Goals as goal

pub returns-clause-ending : goal.returns-clause-ending
returns-clause-ending c = λ first head bits reads after. c.ending.ensures.ending ∙ ap (ending_at c.args.plan.now) (c.view.ensures ∙ after.known)

pub returns-clause-choice : goal.returns-clause-choice
returns-clause-choice c = λ first head bits reads fits after.
    let plan = c.args.plan.now in
    if_none c.ending.result (λ none.
    chooses first c.args.self.now plan head bits reads c.rounds_have_planes.ensures c.policies_choose.ensures fits after c.requires.1
    (subst IsNone (c.ending.ensures.ending ∙ ap (ending_at plan) c.view.ensures) none))
