-- The report of the rounds over the table, each of whose intervals is certain.
use Rattle.std.proofs.Common.{◌∙◌, [], Err, Some, refl, ap, subst, sym}
use Rattle.std.proofs.lemmas.Result.{err_from_is_err_and}
use Rattle.std.specs.Prelude.{⊤}
use Rattle.daq_table.specs.Tables.{frame_of}
use Rattle.plane_schedule.specs.Plans.{IsReadable}
use Rattle.query_model.specs.Knowledge.{plane_of}
use Rattle.query_model.specs.Validity.{FitsHead}
use Rattle.round_engine.specs.Stages.{Stage}
use Rattle.daq_cli.specs.Report.{WritesRounds, query_line, report, seen_by, shown_rounds}
use Rattle.daq_cli.specs.Worlds.{partly, whole}
use Rattle.daq_cli.specs.declared.stop.Stop.TheVariants.{Step}
use Rattle.table_rounds.specs.Headline.{AreOfLongs}
use Rattle.table_rounds.specs.Rounds.{IsAfter}
use Rattle.plane_course.specs.declared.reading.StepFault.TheVariants.{OverTop}
use Rattle.daq_cli.proofs.Loops.{after_line, as_partly, as_whole, in_line}
use Rattle.daq_cli.proofs.Tables.{fails_of, finishes_of, in_part, is_whole, never_refused, stops_of}
use Rattle.daq_cli.proofs.report.report_table.Goals as goal

pub returns-in_err-write_query-clause-failed : goal.returns-in_err-write_query-clause-failed
returns-in_err-write_query-clause-failed g c =
    let head = c.args.table.now.head in
    let typed = c.args.begun.now.running.query in
    let cells = c.args.table.now.cells in
    let bits = plane_of (frame_of head) cells in
    let plan = c.args.begun.now.plan in
    let old = g.K.Sink.state c.args.out.now in
    let new = g.K.Sink.state c.write_query.new.out in
    let line = query_line c.args.sql.now in
    let seen = seen_by (λ column number. []) (λ column number. ⊤) in
    let named = c.valid_queries_name_columns.ensures head typed c.requires.valid in
    let longs = subst (λ h. AreOfLongs (frame_of h)) c.head-told.ensures.head c.heads_are_of_longs.ensures in
    let table = c.head-told.ensures.is_table in
    let readable = subst (IsReadable plan.policy) (ap (λ s. s.frame) c.requires.opened) c.requires.readable in
    let p = err_from_is_err_and c.from_residual.result c.from_residual.ensures.1 in
    rw p.1 (λ query is.
    let failed = in_line line (shown_rounds head plan typed bits) seen old new (Some []) (c.rounds_begin.ensures plan typed head bits).rounds (as_partly _ _ _ _ c.in_err-write_query.ensures) in
    let part = in_part line head plan typed cells seen named table c.tables_are_taken.ensures c.rounds_have_an_end.ensures readable old new (Some []) (Some []) failed in
    let written = subst (λ t. WritesRounds (report t head plan typed bits) head plan typed bits partly old new) is part in
    record { written = written; headline = c.rounds_are_certain.ensures plan typed (frame_of head) bits written.reads cells named longs written.rounds.rounds (record { table = table; same = λ i j h k. refl }) })

pub returns-in-Ok-clause-done : goal.returns-in-Ok-clause-done
returns-in-Ok-clause-done g c = λ query is.
    let head = c.args.table.now.head in
    let typed = c.args.begun.now.running.query in
    let cells = c.args.table.now.cells in
    let bits = plane_of (frame_of head) cells in
    let plan = c.args.begun.now.plan in
    let old = g.K.Sink.state c.args.out.now in
    let new = g.K.Sink.state c.write_rounds.new.out in
    let line = query_line c.args.sql.now in
    let seen = seen_by (λ column number. []) (λ column number. ⊤) in
    let named = c.valid_queries_name_columns.ensures head typed c.requires.valid in
    let longs = subst (λ h. AreOfLongs (frame_of h)) c.head-told.ensures.head c.heads_are_of_longs.ensures in
    let table = c.head-told.ensures.is_table in
    let ends = after_line line (shown_rounds head plan typed bits) seen _ c.write_rounds.result old _ new (Some []) (Some []) (as_whole _ _ _ _ c.in_ok-write_query.ensures) c.write_rounds.ensures.ends in
    let finished = finishes_of line head plan typed bits seen _ c.write_rounds.result old new (Some []) (Some []) ends c.in-Ok.is in
    let all = is_whole line head plan typed cells seen named table c.tables_are_taken.ensures old new _ _ finished in
    let written = subst (λ t. WritesRounds (report t head plan typed bits) head plan typed bits whole old new) is all in
    record { written = written; headline = c.rounds_are_certain.ensures plan typed (frame_of head) bits written.reads cells named longs written.rounds.rounds (record { table = table; same = λ i j h k. refl }) }

pub returns-in-Err-Failed-clause-failed : goal.returns-in-Err-Failed-clause-failed
returns-in-Err-Failed-clause-failed g c = λ query is.
    let head = c.args.table.now.head in
    let typed = c.args.begun.now.running.query in
    let cells = c.args.table.now.cells in
    let bits = plane_of (frame_of head) cells in
    let plan = c.args.begun.now.plan in
    let old = g.K.Sink.state c.args.out.now in
    let new = g.K.Sink.state c.write_rounds.new.out in
    let line = query_line c.args.sql.now in
    let seen = seen_by (λ column number. []) (λ column number. ⊤) in
    let named = c.valid_queries_name_columns.ensures head typed c.requires.valid in
    let longs = subst (λ h. AreOfLongs (frame_of h)) c.head-told.ensures.head c.heads_are_of_longs.ensures in
    let table = c.head-told.ensures.is_table in
    let readable = subst (IsReadable plan.policy) (ap (λ s. s.frame) c.requires.opened) c.requires.readable in
    let ends = after_line line (shown_rounds head plan typed bits) seen _ c.write_rounds.result old _ new (Some []) (Some []) (as_whole _ _ _ _ c.in_ok-write_query.ensures) c.write_rounds.ensures.ends in
    let failed = fails_of line head plan typed bits seen _ c.write_rounds.result old new (Some []) (Some []) ends (c.in-Err-Failed.is ∙ ap Err c.in-Err-Failed.field-0-is) in
    let part = in_part line head plan typed cells seen named table c.tables_are_taken.ensures c.rounds_have_an_end.ensures readable old new (Some []) (Some []) failed in
    let written = subst (λ t. WritesRounds (report t head plan typed bits) head plan typed bits partly old new) is part in
    record { written = written; headline = c.rounds_are_certain.ensures plan typed (frame_of head) bits written.reads cells named longs written.rounds.rounds (record { table = table; same = λ i j h k. refl }) }

-- no plane of a table is refused
pub unreachable-requires : goal.unreachable-requires
unreachable-requires g c =
    let head = c.args.table.now.head in
    let typed = c.args.begun.now.running.query in
    let cells = c.args.table.now.cells in
    let bits = plane_of (frame_of head) cells in
    let plan = c.args.begun.now.plan in
    let mid = g.K.Sink.state c.write_query.new.out in
    let new = g.K.Sink.state c.write_rounds.new.out in
    let arm = c.in-Err-Step-OverTop in
    let seen = seen_by (λ column number. []) (λ column number. ⊤) in
    let named = c.valid_queries_name_columns.ensures head typed c.requires.valid in
    let over = stops_of [] head plan typed bits seen _ c.write_rounds.result mid new (Some []) (Some []) c.write_rounds.ensures.ends
    (OverTop arm.field-0-0-0 arm.field-0-0-1 arm.field-0-0-2) (arm.is ∙ ap Err (arm.field-0-is ∙ ap Step arm.field-0-0-is)) in
    never_refused [] head plan typed cells seen named c.head-told.ensures.is_table c.tables_are_taken.ensures _
    arm.field-0-0-0 arm.field-0-0-1 arm.field-0-0-2 mid new (Some []) (Some []) over

-- ---- what is asked of the call

pub write_rounds-requires-clause-begun : goal.write_rounds-requires-clause-begun
write_rounds-requires-clause-begun g c = λ bits.
    let head = c.args.table.now.head in
    let plan = c.args.begun.now.plan in
    let typed = c.args.begun.now.running.query in
    subst (IsAfter plan typed (frame_of head) bits []) (sym c.requires.opened) (c.rounds_begin.ensures plan typed head bits)

pub write_rounds-requires-clause-fits : goal.write_rounds-requires-clause-fits
write_rounds-requires-clause-fits g c =
    subst (λ (s : Stage). FitsHead s.query s.frame c.args.table.now.head) (sym c.requires.opened) (record { valid = c.requires.valid; same = refl })
