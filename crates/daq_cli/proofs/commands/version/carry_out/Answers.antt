-- A failed write stops it.
use Rattle.std.proofs.Common.{refl, sym, subst}
use Rattle.std.proofs.lemmas.Result.{err_from_is_err_and}
use Rattle.outer_world.proofs.Writes.{writes_failed}
use Rattle.daq_cli.specs.Notices.{NoticeCause, write_fault}
use Rattle.daq_cli.specs.Worlds.{partly}
use Rattle.daq_cli.specs.commands.Version.{version_text}
use Rattle.daq_cli.proofs.commands.version.carry_out.Goals as goal

pub returns-in_err-write_whole-clause-refused : goal.returns-in_err-write_whole-clause-refused
unfolding version_text
returns-in_err-write_whole-clause-refused g c =
    let p = err_from_is_err_and c.from_residual.result c.from_residual.ensures.1 in
    let written = writes_failed _ partly _ _ _ refl c.in_err-write_whole.ensures in
    rw p.1 (subst (NoticeCause version_text (g.K.Sink.state c.args.out.now) (g.K.Sink.state c.write_whole.new.sink)) (sym p.2) (write_fault written))
