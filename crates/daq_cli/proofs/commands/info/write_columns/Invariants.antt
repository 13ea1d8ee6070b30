-- What holds as the lines are written: those of the columns so far are.
use Rattle.std.proofs.Common.{Ok, take}
use Rattle.outer_world.specs.declared.device.Failed.{Failed}
use Rattle.outer_world.specs.Whole.{Writes}
use Rattle.daq_cli.specs.commands.Info.{column_lines}
use Rattle.daq_cli.proofs.commands.info.write_columns.Given as goal

abbrev pub invariant-loop-place : goal.invariant-loop-place
invariant-loop-place g l = Writes {T = Unit {0}} {E = Failed} (Ok tt) (g.K.Sink.state l.initial.out) (g.K.Sink.state l.out) (column_lines 1 (take l.place l.columns))
