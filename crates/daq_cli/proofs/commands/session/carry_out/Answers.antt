-- Why each step of a `session` stops it, and what it comes to.
use Rattle.std.proofs.Common.{map, refl, subst, sym}
use Rattle.std.proofs.lemmas.Result.{err_from_is_err_and}
use Rattle.command_line.specs.Values.{session_of}
use Rattle.daq_cli.specs.ScriptValues.{scripted_of}
use Rattle.daq_cli.specs.Scripts.{ReadsScript}
use Rattle.daq_cli.specs.commands.Session.{at_script}
use Rattle.daq_cli.proofs.ScriptCauses.{script_told}
use Rattle.daq_cli.proofs.SessionCauses.{session_file}
use Rattle.daq_cli.proofs.commands.session.carry_out.Goals as goal

pub returns-in_err-queries-clause-refused : goal.returns-in_err-queries-clause-refused
returns-in_err-queries-clause-refused g c =
    let p = err_from_is_err_and c.from_residual.result c.from_residual.ensures.1 in
    rw (p.1, p.2) (at_script c.in_err-queries.ensures.refused refl refl)

pub returns-in_err-file-clause-refused : goal.returns-in_err-file-clause-refused
returns-in_err-file-clause-refused g c =
    let p = err_from_is_err_and c.from_residual-in_err-file.result c.from_residual-in_err-file.ensures.1 in
    rw p.1 (session_file (session_of c.args.asked.now) (g.S.Source.state c.args.side.now) (g.S.Source.state c.read_queries.new.side) (g.K.Sink.state c.args.out.now)
    (map scripted_of c.in_ok-queries.queries.items) c.in_ok-queries.ensures.read (g.P.Store.state c.args.planes.now) (g.P.Store.state c.open.new.store)
    c.in_err-file.field-0.0 p.0 c.in_err-file.ensures.refused p.2)

pub returns-in_err-file-clause-aside : goal.returns-in_err-file-clause-aside
returns-in_err-file-clause-aside g c = λ refused. absurd (refused (λ script told. (
  map scripted_of c.in_ok-queries.queries.items,
  script_told (g.S.Source.state c.args.side.now) (g.S.Source.state c.read_queries.new.side) script told (map scripted_of c.in_ok-queries.queries.items) c.in_ok-queries.ensures.read,
)))

pub returns-clause-aside : goal.returns-clause-aside
returns-clause-aside g c = λ refused. absurd (refused (λ script told. (
  map scripted_of c.in_ok-queries.queries.items,
  script_told (g.S.Source.state c.args.side.now) (g.S.Source.state c.read_queries.new.side) script told (map scripted_of c.in_ok-queries.queries.items) c.in_ok-queries.ensures.read,
)))

pub returns-clause-done : goal.returns-clause-done
returns-clause-done g c =
    let side = g.S.Source.state c.args.side.now in
    let side' = g.S.Source.state c.read_queries.new.side in
    c.answer_file.ensures.done side side' (g.P.Store.state c.args.planes.now) (record {
      read = subst (λ l. ReadsScript side side' (map scripted_of l)) (sym c.deref.ensures.value) c.in_ok-queries.ensures.read;
      opens = c.in_ok-file.ensures.opened;
      same = c.in_ok-file.ensures.same;
    })

pub returns-clause-refused : goal.returns-clause-refused
returns-clause-refused g c =
    let side = g.S.Source.state c.args.side.now in
    let side' = g.S.Source.state c.read_queries.new.side in
    c.answer_file.ensures.refused side side' (g.P.Store.state c.args.planes.now) (record {
      read = subst (λ l. ReadsScript side side' (map scripted_of l)) (sym c.deref.ensures.value) c.in_ok-queries.ensures.read;
      opens = c.in_ok-file.ensures.opened;
      same = c.in_ok-file.ensures.same;
    })
