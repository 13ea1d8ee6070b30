-- A step leaves the queries and what is declared of their columns, and is one of the course.
use Rattle.std.proofs.Common.{◌≡◌, ℕ, length, refl}
use Rattle.multi_session.specs.Sessions.{Awaits, Session, session_stepped}
use Rattle.round_engine.specs.Stages.{IsFirstOver, Stage}
use Rattle.table_rounds.proofs.Fitting.{fits_stepped}
use Rattle.table_rounds.proofs.SessionCourse.{further, over_there}
use Rattle.table_rounds.proofs.StepsTake.{fewer_left}
use Rattle.table_rounds.specs.Steps.{FitsSession}
use Rattle.plane_course.proofs.Stepping.{if_err, on_both, stays}
use Rattle.plane_course.proofs.sessions.SessionRunning.take.Goals as goal

pub returns-clause-fits : goal.returns-clause-fits
returns-clause-fits c = λ head fits.
    let s = c.args.self.now in
    let next = session_stepped s c.args.column c.args.plane.now in
    stays (λ (t : Session). FitsSession t head) c.step.result s c.step.new.self next c.step.ensures.taken c.step.ensures.unchanged fits (fits_stepped s next head c.args.column c.args.plane.now fits refl)

pub returns-clause-rows : goal.returns-clause-rows
returns-clause-rows c =
    let s = c.args.self.now in
    stays (λ (t : Session). t.rows ≡ s.rows) c.step.result s c.step.new.self (session_stepped s c.args.column c.args.plane.now) c.step.ensures.taken c.step.ensures.unchanged refl refl

pub returns-clause-columns : goal.returns-clause-columns
returns-clause-columns c =
    let s = c.args.self.now in
    stays (λ (t : Session). length t.columns ≡ length s.columns) c.step.result s c.step.new.self (session_stepped s c.args.column c.args.plane.now) c.step.ensures.taken c.step.ensures.unchanged refl refl

pub returns-clause-fewer : goal.returns-clause-fewer
returns-clause-fewer c =
    on_both c.step.result (λ step can. fewer_left c.args.self.now c.step.new.self c.args.column c.args.plane.now c.progress-progress.ensures.known can c.requires.unread step) c.step.ensures.taken c.step.ensures.legal

pub returns-clause-next : goal.returns-clause-next
returns-clause-next c =
    on_both c.step.result (λ step can first plan head bits reads fits after followed is.
    further first c.args.self.now plan head bits reads c.args.column c.args.plane.now after c.requires.unread is c.taken_is_knowledge.ensures c.step.new.self followed can step) c.step.ensures.taken
    c.step.ensures.legal

pub returns-clause-over : goal.returns-clause-over
returns-clause-over c =
    let s = c.args.self.now in
    if_err (λ over. (stage : Stage) (own : ℕ) → Awaits s c.args.column stage own → IsFirstOver stage own c.args.plane.now over.row) _ c.step.result
    (λ over at_row first plan head bits reads fits after followed is.
    over_there first s plan head bits reads c.args.column c.args.plane.now after c.requires.unread is over.row at_row) c.step.ensures.over
