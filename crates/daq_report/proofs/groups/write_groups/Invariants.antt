-- What holds as the cells are written: those so far are.
use Rattle.std.proofs.Common.{Ok}
use Rattle.outer_world.specs.declared.device.Failed.{Failed}
use Rattle.outer_world.specs.Whole.{Writes}
use Rattle.round_engine.specs.Cells.{absence_in_cell}
use Rattle.daq_report.specs.Groups.{cell_text}
use Rattle.daq_report.proofs.Sequences.{texts}
use Rattle.daq_report.proofs.groups.write_groups.Given as goal

abbrev pub invariant-loop-cell : goal.invariant-loop-cell
invariant-loop-cell g l =
    Writes {T = Unit {0}} {E = Failed} (Ok tt) (g.K.Sink.state l.initial.out) (g.K.Sink.state l.out)
    (texts (λ cell. cell_text l.head l.engine l.columns cell (absence_in_cell l.engine cell)) 0 l.cell)
