-- Why each step of reading a script stops it, and what it comes to.
use Rattle.std.proofs.Common.{◌≢◌, [], ap, map, subst, sym}
use Rattle.std.proofs.lemmas.Result.{err_from_is_err_and}
use Rattle.outer_world.specs.Whole.{ReadsToEnd}
use Rattle.session_script.specs.Answers.{IsScript, most_bytes}
use Rattle.session_script.specs.Lines.{line_of}
use Rattle.daq_cli.specs.ScriptValues.{scripted_of}
use Rattle.daq_cli.specs.Scripts.{line_step}
use Rattle.daq_cli.proofs.Results.{if_err, if_ok}
use Rattle.daq_cli.proofs.ScriptCauses.{stops_at_line, stops_at_script, stops_reading}
use Rattle.daq_cli.proofs.Steps.{each_some}
use Rattle.daq_cli.proofs.scripts.read_queries.Goals as goal

pub returns-in-Err-clause-refused : goal.returns-in-Err-clause-refused
returns-in-Err-clause-refused g c =
    stops_reading (g.S.Source.state c.args.side.now) (g.S.Source.state c.read_all.new.src) c.in-Err.fault c.unread.result c.in-Err.ensures.stopped c.unread.ensures

pub returns-in_err-lines-clause-refused : goal.returns-in_err-lines-clause-refused
returns-in_err-lines-clause-refused g c =
    let side = g.S.Source.state c.args.side.now in
    let side' = g.S.Source.state c.read_all.new.src in
    let read = subst (ReadsToEnd side side' most_bytes) (sym c.deref.ensures.value) c.in-Ok.ensures.read in
    let p = err_from_is_err_and c.from_residual.result c.from_residual.ensures.1 in
    rw p.1 (stops_at_script side side' c.deref.result.now read c.in_err-lines.field-0.0 p.0 c.in_err-lines.ensures.err p.2)

pub returns-clause-some : goal.returns-clause-some
returns-clause-some g c =
    let some = subst (λ l. map line_of l ≢ []) (sym c.deref-2.ensures.value) c.in_ok-lines.ensures.ok.some in
    if_ok _ _ c.read_lines.result _ _ (λ queries accepted none. each_some line_step (map line_of c.deref-2.result.now) (map scripted_of queries.items) some accepted (ap (map scripted_of) none))
    c.read_lines.ensures.queries

pub returns-clause-refused : goal.returns-clause-refused
returns-clause-refused g c =
    let side = g.S.Source.state c.args.side.now in
    let side' = g.S.Source.state c.read_all.new.src in
    let script = c.deref.result.now in
    let read = subst (ReadsToEnd side side' most_bytes) (sym c.deref.ensures.value) c.in-Ok.ensures.read in
    let is_script = subst (λ l. IsScript script (map line_of l)) (sym c.deref-2.ensures.value) c.in_ok-lines.ensures.ok in
    if_err _ _ c.read_lines.result _ _ (λ why stop. stops_at_line side side' script read (map line_of c.deref-2.result.now) is_script why stop) c.read_lines.ensures.refused
