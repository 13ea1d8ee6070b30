-- What holds as the lines are written: those of the items so far are.
use Rattle.std.proofs.Common.{Ok, take}
use Rattle.outer_world.specs.declared.device.Failed.{Failed}
use Rattle.outer_world.specs.Whole.{Writes}
use Rattle.daq_report.specs.Items.{item_lines}
use Rattle.daq_report.proofs.items.write_items.Given as goal

abbrev pub invariant-loop-place : goal.invariant-loop-place
invariant-loop-place g l =
    Writes {T = Unit {0}} {E = Failed} (Ok tt) (g.K.Sink.state l.initial.out) (g.K.Sink.state l.out) (item_lines l.head l.engine l.scope 1 (take l.place l.engine.query.items))
