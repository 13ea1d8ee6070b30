-- Why each step of a `query` stops it, and what it comes to.
use Rattle.std.proofs.Common.{◌∙◌, subst, IsSome, Ok, Err}
use Rattle.std.proofs.lemmas.Result.{err_from_is_err_and}
use Rattle.command_line.specs.Values.{query_of}
use Rattle.daq_table.specs.Tables.{frame_of}
use Rattle.query_model.specs.Validity.{IsValid}
use Rattle.sql_text.specs.Tree as sql
use Rattle.table_rounds.specs.Headline.{AreOfLongs}
use Rattle.daq_cli.specs.Questions.{IsPlanned, StopsPlanning, asked_with}
use Rattle.daq_cli.specs.Report.{EndsOverSome, WritesOverSome, query_line, shown_rounds}
use Rattle.daq_cli.specs.FileReports.{EndsFile}
use Rattle.daq_cli.specs.commands.Query.{Begins}
use Rattle.daq_cli.proofs.QueryCauses.{query_done, query_plan, query_stop}
use Rattle.daq_cli.proofs.commands.query.answer_file.Goals as goal

pub returns-in_err-prepared-clause-refused : goal.returns-in_err-prepared-clause-refused
returns-in_err-prepared-clause-refused g c first has =
    let asked = query_of c.args.asked.now in
    let query = sql.query_of c.args.query.now in
    let p = err_from_is_err_and c.from_residual.result c.from_residual.ensures.1 in
    let why = c.in_err-prepared.field-0.0 in
    rw (p.1, p.2) (query_plan asked (g.K.Sink.state c.args.out.now) query has.is_text first (g.P.Store.state c.args.planes.now)
    c.args.file.now has.opens why (subst (λ h. StopsPlanning (asked_with query asked.options h) why) c.head-head.ensures.head c.in_err-prepared.ensures.refused))

pub returns-in_err-report_query-clause-refused : goal.returns-in_err-report_query-clause-refused
returns-in_err-report_query-clause-refused g c first has =
    let asked = query_of c.args.asked.now in
    let query = sql.query_of c.args.query.now in
    let planes = first in
    let opened = g.P.Store.state c.args.planes.now in
    let last = g.P.Store.state c.report_query.new.planes in
    let old = g.K.Sink.state c.args.out.now in
    let new = g.K.Sink.state c.report_query.new.out in
    let file = c.args.file.now in
    let made = c.in_ok-prepared.prepared in
    let begun : Begins asked planes opened = record {
      query = query;
      is_text = has.is_text;
      file = file;
      opens = has.opens;
      same = has.same;
      typed = made.begun.running.query;
      plan = made.begun.plan;
      planned = subst (λ h. IsPlanned (asked_with query asked.options h) made.begun.running.query made.begun.plan) c.head-head.ensures.head c.in_ok-prepared.ensures.planned;
    } in
    let named = c.valid_queries_name_columns.ensures file.head made.begun.running.query (subst (λ h. IsValid h made.begun.running.query) c.head-head.ensures.head c.in_ok-prepared.ensures.valid) in
    let longs = subst (λ h. AreOfLongs (frame_of h)) c.head-head.ensures.head c.heads_are_of_longs.ensures in
    let stop = c.in_err-report_query.field-0.0 in
    let ends = subst (λ l. EndsFile (query_line l) (shown_rounds file.head made.begun.plan made.begun.running.query) file.head (Err stop) opened last old new) (c.as_bytes.ensures.value ∙ c.in_ok-prepared.ensures.text) c.in_err-report_query.ensures.ends in
    let written = subst (λ l. EndsOverSome (query_line l) (shown_rounds file.head made.begun.plan made.begun.running.query) (Err stop) old new) (c.as_bytes.ensures.value ∙ c.in_ok-prepared.ensures.text) c.in_err-report_query.ensures.written in
    let p = err_from_is_err_and c.from_residual-in_err-report_query.result c.from_residual-in_err-report_query.ensures.1 in
    rw p.1 (query_stop asked planes opened last old new begun c.rounds_are_certain.ensures c.rounds_have_tables.ensures named longs stop p.0 p.2 c.in_err-report_query.ensures.cause written ends)

pub returns-clause-done : goal.returns-clause-done
returns-clause-done g c first has =
    let asked = query_of c.args.asked.now in
    let query = sql.query_of c.args.query.now in
    let planes = first in
    let opened = g.P.Store.state c.args.planes.now in
    let last = g.P.Store.state c.report_query.new.planes in
    let old = g.K.Sink.state c.args.out.now in
    let new = g.K.Sink.state c.report_query.new.out in
    let file = c.args.file.now in
    let made = c.in_ok-prepared.prepared in
    let begun : Begins asked planes opened = record {
      query = query;
      is_text = has.is_text;
      file = file;
      opens = has.opens;
      same = has.same;
      typed = made.begun.running.query;
      plan = made.begun.plan;
      planned = subst (λ h. IsPlanned (asked_with query asked.options h) made.begun.running.query made.begun.plan) c.head-head.ensures.head c.in_ok-prepared.ensures.planned;
    } in
    let named = c.valid_queries_name_columns.ensures file.head made.begun.running.query (subst (λ h. IsValid h made.begun.running.query) c.head-head.ensures.head c.in_ok-prepared.ensures.valid) in
    let longs = subst (λ h. AreOfLongs (frame_of h)) c.head-head.ensures.head c.heads_are_of_longs.ensures in
    let ends = subst (λ l. EndsFile (query_line l) (shown_rounds file.head made.begun.plan made.begun.running.query) file.head (Ok tt) opened last old new) (c.as_bytes.ensures.value ∙ c.in_ok-prepared.ensures.text) c.in_ok-report_query.ensures.ends in
    let written = subst (λ l. WritesOverSome (query_line l) (shown_rounds file.head made.begun.plan made.begun.running.query) IsSome old new) (c.as_bytes.ensures.value ∙ c.in_ok-prepared.ensures.text) c.in_ok-report_query.ensures.written in
    query_done asked planes opened last old new begun c.rounds_are_certain.ensures c.rounds_have_tables.ensures named longs written ends
