-- The line of the query, and then the rounds.
use Rattle.std.proofs.Common.{[], arith, option_map, refl, subst, sym}
use Rattle.std.proofs.lemmas.Result.{err_from_is_err_and}
use Rattle.daq_table.specs.Tables.{frame_of}
use Rattle.outer_world.specs.Whole.{laid}
use Rattle.plane_course.specs.Told.{bits_at}
use Rattle.query_model.specs.Validity.{FitsHead}
use Rattle.round_engine.specs.Stages.{Stage}
use Rattle.table_rounds.specs.Rounds.{IsAfter}
use Rattle.daq_cli.specs.Report.{query_line, shown_rounds}
use Rattle.daq_cli.specs.FileReports.{StopsAfter, seen_in}
use Rattle.daq_cli.proofs.Loops.{after_line, after_line_some, all_some, as_partly, as_whole, cause_after, if_some, in_line, in_line_some}
use Rattle.daq_cli.proofs.commands.query.report_query.Goals as goal

pub returns-in_err-write_query-clause-ends : goal.returns-in_err-write_query-clause-ends
returns-in_err-write_query-clause-ends g c =
    let head = c.args.file.now.head in
    let opened = g.P.Store.state c.args.planes.now in
    let plan = c.args.begun.now.plan in
    let query = c.args.begun.now.running.query in
    let p = err_from_is_err_and c.from_residual.result c.from_residual.ensures.1 in
    rw (p.1, p.2) (all_some opened.held _ (λ bytes. in_line (query_line c.args.sql.now) (shown_rounds head plan query (bits_at head bytes)) (seen_in head bytes) _ _ (option_map laid opened.pieces)
    (c.rounds_begin.ensures plan query head (bits_at head bytes)).rounds (as_partly _ _ _ _ c.in_err-write_query.ensures)))

pub returns-clause-ends : goal.returns-clause-ends
returns-clause-ends g c =
    let head = c.args.file.now.head in
    let opened = g.P.Store.state c.args.planes.now in
    let last = g.P.Store.state c.report_file.new.planes in
    let plan = c.args.begun.now.plan in
    let query = c.args.begun.now.running.query in
    if_some opened.held _ _
    (λ bytes ended. after_line (query_line c.args.sql.now) (shown_rounds head plan query (bits_at head bytes)) (seen_in head bytes) (StopsAfter head opened last) c.report_file.result _ _ _ _ _
    (as_whole _ _ _ _ c.in_ok-write_query.ensures) ended)
    c.report_file.ensures.ends

pub returns-in_err-write_query-clause-same : goal.returns-in_err-write_query-clause-same
returns-in_err-write_query-clause-same g c = record { held = refl; faults = omega arith; ends = omega arith }

pub returns-clause-cause : goal.returns-clause-cause
returns-clause-cause g c = cause_after _ c.report_file.result _ _ _ c.in_ok-write_query.ensures.cause.later c.report_file.ensures.cause

-- ---- whatever is told

pub returns-in_err-write_query-clause-written : goal.returns-in_err-write_query-clause-written
returns-in_err-write_query-clause-written g c =
    let head = c.args.file.now.head in
    let plan = c.args.begun.now.plan in
    let query = c.args.begun.now.running.query in
    let p = err_from_is_err_and c.from_residual.result c.from_residual.ensures.1 in
    rw (p.1, p.2) (in_line_some (query_line c.args.sql.now) (shown_rounds head plan query) _ _ (λ bits. (c.rounds_begin.ensures plan query head bits).rounds) (as_partly _ _ _ _ c.in_err-write_query.ensures))

pub returns-clause-written : goal.returns-clause-written
returns-clause-written g c =
    let head = c.args.file.now.head in
    let plan = c.args.begun.now.plan in
    let query = c.args.begun.now.running.query in
    after_line_some (query_line c.args.sql.now) (shown_rounds head plan query) c.report_file.result _ _ _ (as_whole _ _ _ _ c.in_ok-write_query.ensures) c.report_file.ensures.written

-- ---- what is asked of the call

pub report_file-requires-clause-begun : goal.report_file-requires-clause-begun
report_file-requires-clause-begun g c = λ bits.
    let head = c.args.file.now.head in
    let plan = c.args.begun.now.plan in
    let query = c.args.begun.now.running.query in
    subst (IsAfter plan query (frame_of head) bits []) (sym c.requires.opened) (c.rounds_begin.ensures plan query head bits)

pub report_file-requires-clause-fits : goal.report_file-requires-clause-fits
report_file-requires-clause-fits g c =
    subst (λ (s : Stage). FitsHead s.query s.frame c.args.file.now.head) (sym c.requires.opened) (record { valid = c.requires.valid; same = refl })
