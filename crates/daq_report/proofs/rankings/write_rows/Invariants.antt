-- What holds as the blocks are written: their rows so far are.
use Rattle.std.proofs.Common.{Ok, ◌*◌, min}
use Rattle.outer_world.specs.declared.device.Failed.{Failed}
use Rattle.outer_world.specs.Whole.{Writes}
use Rattle.daq_report.specs.Rankings.{rows_text}
use Rattle.daq_report.proofs.rankings.write_rows.Given as goal

abbrev pub invariant-loop-block : goal.invariant-loop-block
invariant-loop-block g l =
    Writes {T = Unit {0}} {E = Failed} (Ok tt) (g.K.Sink.state l.initial.out) (g.K.Sink.state l.out)
    (rows_text l.head l.engine l.key l.list 0 (min l.engine.frame.rows (64 * l.block)))
