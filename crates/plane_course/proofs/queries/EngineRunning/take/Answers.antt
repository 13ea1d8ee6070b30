-- A step leaves the query and what is declared of its columns, and is one of the course.
use Rattle.std.proofs.Common.{◌≡◌, ◌<◌, ◌^◌, length, refl, subst}
use Rattle.plane_schedule.specs.Plans.{IsReadable}
use Rattle.query_model.specs.Knowledge.{IsKnowledge}
use Rattle.query_model.specs.Validity.{FitsHead}
use Rattle.round_engine.specs.Stages.{IsFirstOver, Stage, stepped}
use Rattle.table_rounds.proofs.Fewer.{fewer_unread}
use Rattle.table_rounds.proofs.Outlooks.{unread_has_plane}
use Rattle.table_rounds.proofs.QueryCourse.{further, over_there}
use Rattle.plane_course.proofs.Stepping.{if_err, on_both, on_ok, stays}
use Rattle.plane_course.proofs.queries.EngineRunning.take.Goals as goal

pub step-requires-clause-plane : goal.step-requires-clause-plane
step-requires-clause-plane c = unread_has_plane c.args.self.now c.args.column c.requires.unread

pub returns-clause-fits : goal.returns-clause-fits
returns-clause-fits c = λ head fits.
    let stage = c.args.self.now in
    stays (λ (s : Stage). FitsHead s.query s.frame head) c.step.result stage c.step.new.self (stepped stage c.args.column c.args.plane.now) c.step.ensures.taken c.step.ensures.unchanged fits fits

pub returns-clause-rows : goal.returns-clause-rows
returns-clause-rows c =
    let stage = c.args.self.now in
    stays (λ (s : Stage). s.frame.rows ≡ stage.frame.rows) c.step.result stage c.step.new.self (stepped stage c.args.column c.args.plane.now) c.step.ensures.taken c.step.ensures.unchanged refl refl

pub returns-clause-columns : goal.returns-clause-columns
returns-clause-columns c =
    let stage = c.args.self.now in
    stays (λ (s : Stage). length s.frame.columns ≡ length stage.frame.columns) c.step.result stage c.step.new.self (stepped stage c.args.column c.args.plane.now) c.step.ensures.taken c.step.ensures.unchanged refl refl

pub returns-clause-follow : goal.returns-clause-follow
returns-clause-follow c = λ plan can.
    let stage = c.args.self.now in
    stays (λ (s : Stage). (plan.near.width < 2 ^ 63) × IsReadable plan.policy s.frame) c.step.result stage c.step.new.self (stepped stage c.args.column c.args.plane.now) c.step.ensures.taken
    c.step.ensures.unchanged can can

pub returns-clause-fewer : goal.returns-clause-fewer
returns-clause-fewer c =
    let stage = c.args.self.now in
    let knows = subst (λ (s : Stage). IsKnowledge s.frame s.known) c.view-view.ensures c.query-query.ensures.knowledge in
    let has = unread_has_plane stage c.args.column c.requires.unread in
    on_ok c.step.result (λ step. fewer_unread stage c.step.new.self c.args.column c.args.plane.now knows has step) c.step.ensures.taken

pub returns-clause-next : goal.returns-clause-next
returns-clause-next c =
    let stage = c.args.self.now in
    let knows = subst (λ (s : Stage). IsKnowledge s.frame s.known) c.view-view.ensures c.query-query.ensures.knowledge in
    on_both c.step.result (λ step can first plan head bits reads fits after followed is.
    further first stage plan head bits reads c.taken_is_knowledge.ensures c.step.new.self c.args.column c.args.plane.now after followed c.requires.unread knows can is step)
    c.step.ensures.taken c.step.ensures.legal

pub returns-clause-over : goal.returns-clause-over
returns-clause-over c =
    let stage = c.args.self.now in
    if_err (λ over. IsFirstOver stage c.args.column c.args.plane.now over.row) _ c.step.result (λ over first_over first plan head bits reads fits after followed is.
    over_there first stage plan head bits reads c.args.column over.row c.args.plane.now after c.requires.unread is first_over) c.step.ensures.over
