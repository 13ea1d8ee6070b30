-- The lines of the queries, and then the steps.
use Rattle.std.proofs.Common.{[], arith, map, option_map, refl, subst, sym}
use Rattle.std.proofs.lemmas.Result.{err_from_is_err_and}
use Rattle.std.specs.Prelude.{string_bytes}
use Rattle.outer_world.specs.Whole.{laid}
use Rattle.plane_course.specs.Told.{bits_at}
use Rattle.table_rounds.proofs.Fitting.{fits_opened}
use Rattle.table_rounds.specs.Steps.{FitsSession, IsAfter, queries_of}
use Rattle.daq_cli.specs.SessionReport.{queries_lines, shown_steps}
use Rattle.daq_cli.specs.FileReports.{StopsAfter, seen_in}
use Rattle.daq_cli.proofs.Loops.{after_line, after_line_some, all_some, as_partly, as_whole, cause_after, if_some, in_line, in_line_some}
use Rattle.daq_cli.proofs.commands.session.report_session.Goals as goal

pub returns-in_err-write_queries-clause-ends : goal.returns-in_err-write_queries-clause-ends
returns-in_err-write_queries-clause-ends g c =
    let head = c.args.file.now.head in
    let opened = g.P.Store.state c.args.planes.now in
    let plan = c.args.begun.now.plan in
    let queries = queries_of c.args.begun.now.running in
    let p = err_from_is_err_and c.from_residual.result c.from_residual.ensures.1 in
    rw (p.1, p.2) (all_some opened.held _ (λ bytes. in_line (queries_lines (map string_bytes c.args.sqls.now)) (shown_steps head plan queries (bits_at head bytes)) (seen_in head bytes) _ _ (option_map laid opened.pieces)
    (c.sessions_begin.ensures plan queries head (bits_at head bytes)).rounds (as_partly _ _ _ _ c.in_err-write_queries.ensures)))

pub returns-clause-ends : goal.returns-clause-ends
returns-clause-ends g c =
    let head = c.args.file.now.head in
    let opened = g.P.Store.state c.args.planes.now in
    let last = g.P.Store.state c.report_file.new.planes in
    let plan = c.args.begun.now.plan in
    let queries = queries_of c.args.begun.now.running in
    if_some opened.held _ _
    (λ bytes ended. after_line (queries_lines (map string_bytes c.args.sqls.now)) (shown_steps head plan queries (bits_at head bytes)) (seen_in head bytes) (StopsAfter head opened last) c.report_file.result _ _ _ _ _
    (as_whole _ _ _ _ c.in_ok-write_queries.ensures) ended)
    c.report_file.ensures.ends

pub returns-in_err-write_queries-clause-same : goal.returns-in_err-write_queries-clause-same
returns-in_err-write_queries-clause-same g c = record { held = refl; faults = omega arith; ends = omega arith }

pub returns-clause-cause : goal.returns-clause-cause
returns-clause-cause g c = cause_after _ c.report_file.result _ _ _ c.in_ok-write_queries.ensures.cause.later c.report_file.ensures.cause

-- ---- whatever is told

pub returns-in_err-write_queries-clause-written : goal.returns-in_err-write_queries-clause-written
returns-in_err-write_queries-clause-written g c =
    let head = c.args.file.now.head in
    let plan = c.args.begun.now.plan in
    let queries = queries_of c.args.begun.now.running in
    let p = err_from_is_err_and c.from_residual.result c.from_residual.ensures.1 in
    rw (p.1, p.2) (in_line_some (queries_lines (map string_bytes c.args.sqls.now)) (shown_steps head plan queries) _ _ (λ bits. (c.sessions_begin.ensures plan queries head bits).rounds) (as_partly _ _ _ _ c.in_err-write_queries.ensures))

pub returns-clause-written : goal.returns-clause-written
returns-clause-written g c =
    let head = c.args.file.now.head in
    let plan = c.args.begun.now.plan in
    let queries = queries_of c.args.begun.now.running in
    after_line_some (queries_lines (map string_bytes c.args.sqls.now)) (shown_steps head plan queries) c.report_file.result _ _ _ (as_whole _ _ _ _ c.in_ok-write_queries.ensures) c.report_file.ensures.written

-- ---- what is asked of the call

pub report_file-requires-clause-begun : goal.report_file-requires-clause-begun
report_file-requires-clause-begun g c = λ bits.
    let head = c.args.file.now.head in
    let plan = c.args.begun.now.plan in
    let queries = queries_of c.args.begun.now.running in
    subst (IsAfter plan queries head bits []) (sym c.requires.opened) (c.sessions_begin.ensures plan queries head bits)

pub report_file-requires-clause-fits : goal.report_file-requires-clause-fits
report_file-requires-clause-fits g c =
    let head = c.args.file.now.head in
    let queries = queries_of c.args.begun.now.running in
    subst (λ s. FitsSession s head) (sym c.requires.opened) (fits_opened queries head c.args.begun.now.plan.near c.requires.valid)
