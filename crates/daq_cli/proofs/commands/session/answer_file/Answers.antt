-- Why each step of a `session` stops it, and what it comes to.
use Rattle.std.proofs.Common.{◌∙◌, ap, map, subst, IsSome, Ok, Err}
use Rattle.std.proofs.lemmas.Result.{err_from_is_err_and}
use Rattle.std.specs.Prelude.{string_bytes}
use Rattle.command_line.specs.Values.{session_of}
use Rattle.daq_table.specs.Tables.{frame_of}
use Rattle.table_rounds.specs.SessionLaws.{AreValid}
use Rattle.table_rounds.specs.Headline.{AreOfLongs}
use Rattle.daq_cli.specs.ScriptValues.{scripted_of}
use Rattle.daq_cli.specs.FileReports.{EndsFile}
use Rattle.daq_cli.specs.Report.{EndsOverSome, WritesOverSome}
use Rattle.daq_cli.specs.SessionReport.{queries_lines, shown_steps}
use Rattle.table_rounds.specs.Steps.{queries_of}
use Rattle.daq_cli.specs.Steps.{StopsStep}
use Rattle.daq_cli.specs.commands.Session.{BeginsSteps, asked_together, together_step}
use Rattle.daq_cli.proofs.SessionCauses.{session_done, session_queries, session_stop}
use Rattle.daq_cli.proofs.commands.session.answer_file.Goals as goal

pub returns-in_err-together-clause-refused : goal.returns-in_err-together-clause-refused
returns-in_err-together-clause-refused g c old side first has =
    let queries = map scripted_of c.args.queries.now in
    let p = err_from_is_err_and c.from_residual.result c.from_residual.ensures.1 in
    let why = c.in_err-together.field-0.0 in
    rw (p.1, p.2) (session_queries (session_of c.args.asked.now) old side (g.K.Sink.state c.args.out.now) queries c.args.file.now first (g.P.Store.state c.args.planes.now) has why
    (subst (λ h. StopsStep (together_step queries h) why) c.head-head.ensures.head c.in_err-together.ensures.refused))

pub returns-in_err-report_session-clause-refused : goal.returns-in_err-report_session-clause-refused
returns-in_err-report_session-clause-refused g c before side first has =
    let asked = session_of c.args.asked.now in
    let queries = map scripted_of c.args.queries.now in
    let opened = g.P.Store.state c.args.planes.now in
    let last = g.P.Store.state c.report_session.new.planes in
    let old = g.K.Sink.state c.args.out.now in
    let new = g.K.Sink.state c.report_session.new.out in
    let file = c.args.file.now in
    let made = c.in_ok-together.together in
    let begun : BeginsSteps asked before side first opened = record {
      queries = queries;
      file = file;
      has_opened = has;
      typed = queries_of made.begun.running;
      accepted = subst (λ h. (together_step queries h).accepts (asked_together queries (queries_of made.begun.running) h)) c.head-head.ensures.head c.in_ok-together.ensures.accepted;
      plan = made.begun.plan;
      planned = c.in_ok-together.ensures.planned;
    } in
    let valid = subst (λ h. AreValid h (queries_of made.begun.running)) c.head-head.ensures.head c.in_ok-together.ensures.valid in
    let longs = subst (λ h. AreOfLongs (frame_of h)) c.head-head.ensures.head c.heads_are_of_longs.ensures in
    let stop = c.in_err-report_session.field-0.0 in
    let ends = subst (λ l. EndsFile (queries_lines l) (shown_steps file.head made.begun.plan (queries_of made.begun.running)) file.head (Err stop) opened last old new) (ap (map string_bytes) c.deref.ensures.value ∙ c.in_ok-together.ensures.texts) c.in_err-report_session.ensures.ends in
    let written = subst (λ l. EndsOverSome (queries_lines l) (shown_steps file.head made.begun.plan (queries_of made.begun.running)) (Err stop) old new) (ap (map string_bytes) c.deref.ensures.value ∙ c.in_ok-together.ensures.texts) c.in_err-report_session.ensures.written in
    let p = err_from_is_err_and c.from_residual-in_err-report_session.result c.from_residual-in_err-report_session.ensures.1 in
    rw p.1 (session_stop asked before side first opened last old new begun c.sessions_are_certain.ensures c.queries_are_shown_alone.ensures c.rounds_have_tables.ensures c.valid_queries_name_columns.ensures valid longs stop p.0 p.2 c.in_err-report_session.ensures.cause written ends)

pub returns-clause-done : goal.returns-clause-done
returns-clause-done g c before side first has =
    let asked = session_of c.args.asked.now in
    let queries = map scripted_of c.args.queries.now in
    let opened = g.P.Store.state c.args.planes.now in
    let last = g.P.Store.state c.report_session.new.planes in
    let old = g.K.Sink.state c.args.out.now in
    let new = g.K.Sink.state c.report_session.new.out in
    let file = c.args.file.now in
    let made = c.in_ok-together.together in
    let begun : BeginsSteps asked before side first opened = record {
      queries = queries;
      file = file;
      has_opened = has;
      typed = queries_of made.begun.running;
      accepted = subst (λ h. (together_step queries h).accepts (asked_together queries (queries_of made.begun.running) h)) c.head-head.ensures.head c.in_ok-together.ensures.accepted;
      plan = made.begun.plan;
      planned = c.in_ok-together.ensures.planned;
    } in
    let valid = subst (λ h. AreValid h (queries_of made.begun.running)) c.head-head.ensures.head c.in_ok-together.ensures.valid in
    let longs = subst (λ h. AreOfLongs (frame_of h)) c.head-head.ensures.head c.heads_are_of_longs.ensures in
    let ends = subst (λ l. EndsFile (queries_lines l) (shown_steps file.head made.begun.plan (queries_of made.begun.running)) file.head (Ok tt) opened last old new) (ap (map string_bytes) c.deref.ensures.value ∙ c.in_ok-together.ensures.texts) c.in_ok-report_session.ensures.ends in
    let written = subst (λ l. WritesOverSome (queries_lines l) (shown_steps file.head made.begun.plan (queries_of made.begun.running)) IsSome old new) (ap (map string_bytes) c.deref.ensures.value ∙ c.in_ok-together.ensures.texts) c.in_ok-report_session.ensures.written in
    session_done asked before side first opened last old new begun c.sessions_are_certain.ensures c.queries_are_shown_alone.ensures c.rounds_have_tables.ensures c.valid_queries_name_columns.ensures valid longs written ends
