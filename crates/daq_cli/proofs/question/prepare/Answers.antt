-- A question is refused by its first step that shows why, or it has a plan that can be followed to its end.
use Rattle.std.proofs.Common.{◌<◌, ◌^◌, sym, ap, subst, inr}
use Rattle.std.proofs.lemmas.Result.{err_from_is_err_and}
use Rattle.command_line.specs.Values.{options_of, order_of}
use Rattle.daq_table.specs.Tables.{Frame}
use Rattle.plane_schedule.specs.Plans.{IsReadable}
use Rattle.plane_schedule.specs.declared.policy.Nearness.{Nearness}
use Rattle.round_engine.specs.Stages.{Stage}
use Rattle.sql_text.specs.Tree.{query_of}
use Rattle.daq_cli.specs.Questions.{asked_with}
use Rattle.daq_cli.proofs.QuestionCauses.{readable_of, reads_cause, typing_cause}
use Rattle.daq_cli.proofs.question.prepare.Goals as goal

pub returns-in_err-typed-clause-refused : goal.returns-in_err-typed-clause-refused
returns-in_err-typed-clause-refused c =
    let asked = asked_with (query_of c.args.query.now) (options_of c.args.options.now) c.args.head.now in
    let p = err_from_is_err_and c.from_residual.result c.from_residual.ensures.1 in
    rw p.1 (typing_cause asked c.in_err-typed.field-0.0 p.0 c.in_err-typed.ensures.refused p.2)

pub returns-in_err-plan-clause-refused : goal.returns-in_err-plan-clause-refused
returns-in_err-plan-clause-refused c =
    let asked = asked_with (query_of c.args.query.now) (options_of c.args.options.now) c.args.head.now in
    let p = err_from_is_err_and c.from_residual-in_err-plan.result c.from_residual-in_err-plan.ensures.1 in
    rw p.1 (reads_cause asked c.in_ok-typed.typed c.in_ok-typed.ensures.typed c.in_err-plan.field-0.0 p.0 c.in_err-plan.ensures.refused p.2)

pub returns-in_err-sql-clause-refused : goal.returns-in_err-sql-clause-refused
returns-in_err-sql-clause-refused c =
    let p = err_from_is_err_and c.from_residual-in_err-sql.result c.from_residual-in_err-sql.ensures.1 in
    rw p.1 (inr p.2)

pub returns-in_err-plane-clause-refused : goal.returns-in_err-plane-clause-refused
returns-in_err-plane-clause-refused c =
    let p = err_from_is_err_and c.from_residual-in_err-plane.result c.from_residual-in_err-plane.ensures.1 in
    rw p.1 (inr p.2)

pub returns-in_err-engine-clause-refused : goal.returns-in_err-engine-clause-refused
returns-in_err-engine-clause-refused c =
    let p = err_from_is_err_and c.from_residual-in_err-engine.result c.from_residual-in_err-engine.ensures.1 in
    rw p.1 (inr p.2)

pub returns-clause-planned : goal.returns-clause-planned
returns-clause-planned c =
    let same = ap (λ (s : Stage). s.query) c.in_ok-engine.ensures in
    rw same (record { is_typed = c.in_ok-typed.ensures.typed; planned = c.in_ok-plan.ensures.ok })

pub returns-clause-readable : goal.returns-clause-readable
returns-clause-readable c =
    let readable = readable_of (order_of c.args.options.now.order) c.in_ok-typed.typed c.args.head.now c.in_ok-plan.plan.policy c.in_ok-plan.ensures.ok.policy in
    subst (λ (f : Frame). IsReadable c.in_ok-plan.plan.policy f) (sym (ap (λ (s : Stage). s.frame) c.in_ok-engine.ensures)) readable

pub returns-clause-width : goal.returns-clause-width
returns-clause-width c = subst (λ (near : Nearness). near.width < 2 ^ 63) (sym c.in_ok-plan.ensures.ok.near) c.requires.width
