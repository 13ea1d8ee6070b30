-- The policies see the progress as they see what runs, so the column is theirs.
use Rattle.std.proofs.Common.{subst}
use Rattle.plane_schedule.specs.Choices.{HasChoice, Outlook, outlook_of}
use Rattle.plane_schedule.specs.declared.policy.Policy.{Policy}
use Rattle.plane_schedule.specs.declared.progress.Progress.{Progress}
use Rattle.plane_course.specs.Sources.{StepHandsOver}
use Rattle.plane_course.proofs.Stopping.{failed_of_some, followed_by, plane_told, stops_at, stops_next}
use Rattle.table_rounds.specs.Courses.{Tells}
use Rattle.plane_course.proofs.reading.read_next.Goals as goal

there : (policy : Policy) (o : Outlook) (p : Progress) → Tells o p → HasChoice policy o → HasChoice policy (outlook_of p)
there policy o p tells (c, chosen) = (c, tells.choice policy c chosen)

pub take_next-requires-clause-unread : goal.take_next-requires-clause-unread
take_next-requires-clause-unread g c = c.progress.ensures.back c.in-Some.column c.in-Some.ensures.unread

pub returns-in-Ok-clause-unread : goal.returns-in-Ok-clause-unread
returns-in-Ok-clause-unread g c = c.progress.ensures.back c.in-Some.column c.in-Some.ensures.unread

pub returns-in-Ok-clause-chosen : goal.returns-in-Ok-clause-chosen
returns-in-Ok-clause-chosen g c = λ policy follows choice.
    c.progress.ensures.chosen policy c.in-Some.column (c.in-Some.ensures.follows policy follows (there policy (g.R.Running.outlook c.args.running.now) c.progress.result c.progress.ensures choice))

pub returns-in-Ok-clause-next : goal.returns-in-Ok-clause-next
returns-in-Ok-clause-next g c = λ first plan bits reads follows after is_open is.
    let head = (g.S.PlaneSource.told c.args.source.now).head in
    let running = c.args.running.now in
    let column = c.in-Some.column in
    let followed = followed_by (g.R.Running.course first plan head bits) reads plan.policy (g.R.Running.outlook running) column (g.met.R.Running.by_policy first plan head bits)
    (g.met.R.Running.sees first running plan head bits reads after) (g.met.R.Running.are_reads first running plan head bits reads after) is_open
    (λ choice. c.progress.ensures.chosen plan.policy column (c.in-Some.ensures.follows plan.policy follows (there plan.policy (g.R.Running.outlook running) c.progress.result c.progress.ensures choice))) in
    c.in-Ok.ensures.next first plan bits reads after followed is

pub returns-in-Err-clause-failed : goal.returns-in-Err-clause-failed
returns-in-Err-clause-failed g c =
    failed_of_some c.in-Err.fault (g.S.PlaneSource.fails c.args.source.now c.take_next.new.source) (g.R.Running.place c.args.running.now c.in-Some.column)
    (g.R.Running.number c.args.running.now c.in-Some.column) c.in-Err.ensures.failed

pub returns-in-Err-clause-stops : goal.returns-in-Err-clause-stops
returns-in-Err-clause-stops g c = λ first plan follows.
    let told = g.S.PlaneSource.told c.args.source.now in
    let head = told.head in
    let running = c.args.running.now in
    let column = c.in-Some.column in
    let place = g.R.Running.place running column in
    let number = g.R.Running.number running column in
    let unread = c.progress.ensures.back column c.in-Some.ensures.unread in
    let places = g.S.PlaneSource.places c.args.source.now in
    let causes = g.S.PlaneSource.fails c.args.source.now c.take_next.new.source in
    let from = g.S.PlaneSource.handed c.args.source.now in
    let to = g.S.PlaneSource.handed c.take_next.new.source in
    let plane = c.take_next.new.plane in
    stops_next (g.R.Running.course first plan head) (g.R.Running.after first running plan head) told.bits places causes from to c.in-Err.fault (λ bits is reads after is_open.
    let followed = followed_by (g.R.Running.course first plan head bits) reads plan.policy (g.R.Running.outlook running) column (g.met.R.Running.by_policy first plan head bits)
    (g.met.R.Running.sees first running plan head bits reads after) (g.met.R.Running.are_reads first running plan head bits reads after) is_open
    (λ choice. c.progress.ensures.chosen plan.policy column (c.in-Some.ensures.follows plan.policy follows (there plan.policy (g.R.Running.outlook running) c.progress.result c.progress.ensures choice))) in
    stops_at (g.R.Running.course first plan head bits) reads column followed place number (g.met.R.Running.place_is first running plan head bits reads column after)
    (g.met.R.Running.number_is first running plan head bits reads column after unread) places causes from to told plane _ c.in-Err.fault c.in-Err.ensures.failed c.in-Err.ensures.over
    (subst (λ r. StepHandsOver r from to (places place number)) c.in-Err.is c.take_next.ensures.handed)
    (λ here row over. over first plan bits reads after followed (plane_told told bits place number plane is here)))
