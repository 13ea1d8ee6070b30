-- A question is refused by its first step that shows why, or its report is written, whole or in part.
use Rattle.std.proofs.Common.{◌∙◌, refl, subst}
use Rattle.std.proofs.lemmas.Result.{err_from_is_err_and}
use Rattle.command_line.specs.Values.{options_of}
use Rattle.sql_text.specs.Tree.{query_of}
use Rattle.daq_cli.specs.Questions.{IsPlanned, StopsPlanning, asked_with, question_of, write_fault}
use Rattle.daq_cli.specs.Worlds.{partly, whole}
use Rattle.daq_cli.proofs.QuestionCauses.{stops_question}
use Rattle.daq_cli.proofs.Reports.{Laws, reports_of}
use Rattle.daq_cli.proofs.question.answer.Goals as goal

pub returns-in_err-prepared-clause-refused : goal.returns-in_err-prepared-clause-refused
returns-in_err-prepared-clause-refused g c =
    let query = query_of c.args.query.now in
    let options = options_of c.args.options.now in
    let p = err_from_is_err_and c.from_residual.result c.from_residual.ensures.1 in
    let why = c.in_err-prepared.field-0.0 in
    rw (p.1, p.2) (stops_question (question_of query options c.args.table.now) (g.K.Sink.state c.args.out.now) why
    (subst (λ h. StopsPlanning (asked_with query options h) why) c.head.ensures.head c.in_err-prepared.ensures.refused))

pub returns-in_err-report_table-clause-refused : goal.returns-in_err-report_table-clause-refused
returns-in_err-report_table-clause-refused g c =
    let query = query_of c.args.query.now in
    let options = options_of c.args.options.now in
    let asked = question_of query options c.args.table.now in
    let old = g.K.Sink.state c.args.out.now in
    let made = c.in_ok-prepared.prepared in
    let planned = subst (λ h. IsPlanned (asked_with query options h) made.begun.running.query made.begun.plan) c.head.ensures.head c.in_ok-prepared.ensures.planned in
    let text = c.as_bytes.ensures.value ∙ c.in_ok-prepared.ensures.text in
    let law : Laws = record { typings = c.typing_is_exact.ensures.once; valid = c.typed_queries_are_valid.ensures; lists = c.answers_are_one.ensures; rounds = c.rounds_are_one.ensures } in
    let p = err_from_is_err_and c.from_residual-in_err-report_table.result c.from_residual-in_err-report_table.ensures.1 in
    rw (p.1, p.2) (write_fault (reports_of law asked made.begun.running.query made.begun.running.query made.begun.plan partly old (g.K.Sink.state c.report_table.new.out) refl planned (c.in_err-report_table.ensures.failed query text)))

pub returns-clause-done : goal.returns-clause-done
returns-clause-done g c =
    let query = query_of c.args.query.now in
    let options = options_of c.args.options.now in
    let asked = question_of query options c.args.table.now in
    let old = g.K.Sink.state c.args.out.now in
    let made = c.in_ok-prepared.prepared in
    let planned = subst (λ h. IsPlanned (asked_with query options h) made.begun.running.query made.begun.plan) c.head.ensures.head c.in_ok-prepared.ensures.planned in
    let text = c.as_bytes.ensures.value ∙ c.in_ok-prepared.ensures.text in
    let law : Laws = record { typings = c.typing_is_exact.ensures.once; valid = c.typed_queries_are_valid.ensures; lists = c.answers_are_one.ensures; rounds = c.rounds_are_one.ensures } in
    reports_of law asked made.begun.running.query made.begun.running.query made.begun.plan whole old (g.K.Sink.state c.report_table.new.out) refl planned (c.in_ok-report_table.ensures.done query text)
