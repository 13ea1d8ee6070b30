-- Queries are refused by the first step that shows why, or may be answered together.
use Rattle.std.proofs.Common.{◌≡◌, ◌∙◌, ◌<◌, ◌^◌, List, ap, false, inr, length, map, subst, sym}
use Rattle.std.proofs.lemmas.List.{length-replicate}
use Rattle.std.proofs.lemmas.Result.{err_from_is_err_and}
use Rattle.multi_session.specs.Sessions.{Session, session_opened}
use Rattle.plane_schedule.specs.declared.policy.Nearness.{Nearness}
use Rattle.query_model.specs.Queries.{Query}
use Rattle.table_rounds.specs.SessionLaws.{AreValid}
use Rattle.daq_cli.specs.ScriptValues.{scripted_of}
use Rattle.table_rounds.specs.Steps.{queries_of}
use Rattle.daq_cli.specs.commands.Session.{asked_together, typing_step}
use Rattle.daq_cli.proofs.SessionCauses.{limits_stop, typings_stop}
use Rattle.daq_cli.proofs.SessionQueries.{queries_of_opened}
use Rattle.daq_cli.proofs.Steps.{each_some, some_map}
use Rattle.daq_cli.proofs.together.prepare_all.Goals as goal

pub returns-in_err-typed-clause-refused : goal.returns-in_err-typed-clause-refused
returns-in_err-typed-clause-refused c =
    let p = err_from_is_err_and c.from_residual.result c.from_residual.ensures.1 in
    rw (p.1, p.2) (typings_stop (map scripted_of c.args.queries.now) c.args.head.now c.in_err-typed.field-0.0 c.in_err-typed.ensures.refused)

pub returns-in_err-session-clause-refused : goal.returns-in_err-session-clause-refused
returns-in_err-session-clause-refused c =
    let p = err_from_is_err_and c.from_residual-in_err-session.result c.from_residual-in_err-session.ensures.1 in
    rw p.1 (limits_stop (map scripted_of c.args.queries.now) c.args.head.now c.in_ok-typed.typed.items c.in_ok-typed.ensures.typed c.in_err-session.field-0.0 p.0 c.in_err-session.ensures.refused p.2)

pub returns-in_err-sqls-clause-refused : goal.returns-in_err-sqls-clause-refused
returns-in_err-sqls-clause-refused c =
    let p = err_from_is_err_and c.from_residual-in_err-sqls.result c.from_residual-in_err-sqls.ensures.1 in
    rw p.1 (inr p.2)

pub returns-in_err-plane-clause-refused : goal.returns-in_err-plane-clause-refused
returns-in_err-plane-clause-refused c =
    let p = err_from_is_err_and c.from_residual-in_err-plane.result c.from_residual-in_err-plane.ensures.1 in
    rw p.1 (inr p.2)

opened_queries : (s : Session) (queries : List Query) (head : _) (near : _) → s ≡ session_opened queries head near → queries_of s ≡ queries
opened_queries s queries head near is = ap queries_of is ∙ queries_of_opened queries head near

pub returns-clause-accepted : goal.returns-clause-accepted
returns-clause-accepted c =
    let typed = c.in_ok-typed.typed.items in
    let same = opened_queries c.in_ok-session.session typed c.args.head.now c.plan_of-plan.result.near c.in_ok-session.ensures.opened in
    (typed, c.in_ok-typed.ensures.typed, record { same = ap (λ l. asked_together (map scripted_of c.args.queries.now) l c.args.head.now) same; within = c.in_ok-session.ensures.within })

pub returns-clause-valid : goal.returns-clause-valid
returns-clause-valid c =
    let typed = c.in_ok-typed.typed.items in
    subst (AreValid c.args.head.now) (sym (opened_queries c.in_ok-session.session typed c.args.head.now c.plan_of-plan.result.near c.in_ok-session.ensures.opened)) c.in_ok-typed.ensures.valid

pub returns-clause-opened : goal.returns-clause-opened
returns-clause-opened c =
    let typed = c.in_ok-typed.typed.items in
    let head = c.args.head.now in
    let session = c.in_ok-session.session in
    let near = c.plan_of-plan.result.near in
    subst (λ l. session ≡ session_opened l head near) (sym (opened_queries session typed head near c.in_ok-session.ensures.opened)) c.in_ok-session.ensures.opened

pub open-requires-clause-near : goal.open-requires-clause-near
open-requires-clause-near c = subst (λ (near : Nearness). near.width < 2 ^ 63) (sym c.plan_of-plan.ensures.planned.near) c.requires.width

pub returns-clause-rows : goal.returns-clause-rows
returns-clause-rows c =
    (ap length c.in_ok-plane.ensures ∙ length-replicate c.args.head.now.rows false) ∙ sym (ap (λ (s : Session). s.rows) c.in_ok-session.ensures.opened)

pub open-requires-clause-some : goal.open-requires-clause-some
open-requires-clause-some c =
    each_some (typing_step c.args.head.now) (map scripted_of c.args.queries.now) c.in_ok-typed.typed.items (some_map scripted_of c.args.queries.now c.requires.some) c.in_ok-typed.ensures.typed
