-- Why each step of an `info` stops it.
use Rattle.std.proofs.Common.{refl, sym, subst}
use Rattle.std.proofs.lemmas.Result.{err_from_is_err_and}
use Rattle.outer_world.proofs.Writes.{writes_failed}
use Rattle.daq_cli.specs.Worlds.{partly}
use Rattle.daq_cli.specs.commands.Info.{InfoCause, at_file, write_fault}
use Rattle.daq_cli.proofs.commands.info.carry_out.Goals as goal

pub returns-in_err-file-clause-refused : goal.returns-in_err-file-clause-refused
returns-in_err-file-clause-refused g c =
    let p = err_from_is_err_and c.from_residual.result c.from_residual.ensures.1 in
    rw p.1 (at_file (record { fault = c.in_err-file.field-0.0; is = p.2; refused = c.in_err-file.ensures.refused }) refl)

pub returns-in_err-write_info-clause-refused : goal.returns-in_err-write_info-clause-refused
returns-in_err-write_info-clause-refused g c =
    let p = err_from_is_err_and c.from_residual-in_err-write_info.result c.from_residual-in_err-write_info.ensures.1 in
    let written = writes_failed _ partly _ _ _ refl c.in_err-write_info.ensures in
    rw p.1 (subst (InfoCause (g.P.Store.state c.args.planes.now) (g.P.Store.state c.open.new.store) (g.K.Sink.state c.args.out.now) (g.K.Sink.state c.write_info.new.out)) (sym p.2)
    (write_fault (record { file = c.in_ok-file.file; opened = c.in_ok-file.ensures.opened; written = written })))
