-- Why the file of a table, or its line, is not written.
use Rattle.std.proofs.Common.{refl, sym, subst}
use Rattle.std.proofs.lemmas.Result.{err_from_is_err_and}
use Rattle.outer_world.proofs.Writes.{writes_failed}
use Rattle.daq_cli.specs.Stores.{StoreCause}
use Rattle.daq_cli.specs.Worlds.{partly}
use Rattle.daq_cli.proofs.StoreCauses.{file_stops, line_stops}
use Rattle.daq_cli.proofs.stores.store_table.Goals as goal

pub returns-in_err-size-clause-refused : goal.returns-in_err-size-clause-refused
returns-in_err-size-clause-refused g c =
    let p = err_from_is_err_and c.from_residual.result c.from_residual.ensures.1 in
    rw p.1 (file_stops c.args.word.now c.args.table.now (g.K.Sink.state c.args.made.now) (g.K.Sink.state c.write.new.sink) (g.K.Sink.state c.args.out.now)
    c.in_err-size.field-0.0 p.0 c.in_err-size.ensures.stopped c.write.ensures.faults p.2)

pub returns-in_err-write_line-clause-refused : goal.returns-in_err-write_line-clause-refused
returns-in_err-write_line-clause-refused g c =
    let p = err_from_is_err_and c.from_residual-in_err-write_line.result c.from_residual-in_err-write_line.ensures.1 in
    let line = writes_failed _ partly _ _ _ refl c.in_err-write_line.ensures in
    let made = g.K.Sink.state c.args.made.now in
    let made' = g.K.Sink.state c.write.new.sink in
    let out = g.K.Sink.state c.args.out.now in
    let out' = g.K.Sink.state c.write_line.new.out in
    rw p.1 (subst (StoreCause c.args.word.now c.args.table.now made made' out out') (sym p.2)
    (line_stops c.args.word.now c.args.table.now made made' out out' c.in_ok-size.ensures.written c.write.ensures.faults line))
