-- What a source of planes over a store says, said of the store.
use Rattle.std.proofs.Common.{[], option_map, subst}
use Rattle.outer_world.specs.Whole.{laid}
use Rattle.plane_course.specs.Told.{ShowsUnpadded, bits_at}
use Rattle.plane_file.specs.Places.{plane_places}
use Rattle.plane_file.specs.Reading.{StopsReading}
use Rattle.daq_cli.specs.FileReports.{StopsAfter}
use Rattle.daq_cli.specs.Report.{EndsRounds, seen_by, shown_by}
use Rattle.daq_cli.proofs.Loops.{if_some}
use Rattle.daq_cli.proofs.FileReports.{cause_weaker, ends_weaker, told_bytes}
use Rattle.daq_cli.proofs.SpelledTexts.{spelled_texts}
use Rattle.daq_cli.proofs.file_report.report_planes.Goals as goal

pub write_rounds-requires-clause-texts : goal.write_rounds-requires-clause-texts
write_rounds-requires-clause-texts g c = λ i column there. spelled_texts column (c.head-head.ensures.opened.spelled.each i column there)

pub returns-clause-same_reference : goal.returns-clause-same_reference
returns-clause-same_reference g c = let (file, name, held) = c.write_rounds.ensures.since in name

pub returns-clause-same : goal.returns-clause-same
returns-clause-same g c = let (file, name, held) = c.write_rounds.ensures.since in held

pub returns-clause-cause : goal.returns-clause-cause
returns-clause-cause g c =
    let head = c.args.source.now.file.now.head in
    let last = g.P.Store.state c.write_rounds.new.source.store.now in
    cause_weaker _ (StopsAfter head (g.P.Store.state c.args.source.now.store.now) last)
    (λ at column number error (mid, (file, name, held), handed, failed).
    (g.P.Store.state mid.store.now, held, handed, subst (λ f. StopsReading f.head column number (g.P.Store.state mid.store.now) last error) file failed))
    c.write_rounds.result _ _ c.write_rounds.ensures.cause

pub returns-clause-ends : goal.returns-clause-ends
returns-clause-ends g c =
    let first = g.P.Store.state c.args.source.now.store.now in
    let last = g.P.Store.state c.write_rounds.new.source.store.now in
    let head = c.args.source.now.file.now.head in
    let running = c.args.begun.now.running in
    let plan = c.args.begun.now.plan in
    let shown = shown_by (g.R.Running.course running plan head) (g.R.Shows.block running plan head) in
    let old = g.K.Sink.state c.args.out.now in
    let new = g.K.Sink.state c.write_rounds.new.out in
    let from = option_map laid first.pieces in
    let to = option_map laid last.pieces in
    let causes = StopsAfter head first last in
    told_bytes head first.held (λ shows bits. EndsRounds [] (shown bits) (seen_by (plane_places head) shows) causes c.write_rounds.result old new from to)
    (if_some (option_map (bits_at head) first.held) _ (λ bits. EndsRounds [] (shown bits) (seen_by (plane_places head) (ShowsUnpadded head first)) causes c.write_rounds.result old new from to)
    (λ bits ends. ends_weaker _ causes
    (λ at column number error (mid, (file, name, held), handed, failed).
    (g.P.Store.state mid.store.now, held, handed, subst (λ f. StopsReading f.head column number (g.P.Store.state mid.store.now) last error) file failed))
    [] (shown bits) (seen_by (plane_places head) (ShowsUnpadded head first)) c.write_rounds.result old new from to ends) c.write_rounds.ensures.ends)
