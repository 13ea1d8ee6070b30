-- What holds as the lines are written: those of the queries so far are.
use Rattle.std.proofs.Common.{Ok, map, take}
use Rattle.std.specs.Prelude.{string_bytes}
use Rattle.outer_world.specs.declared.device.Failed.{Failed}
use Rattle.outer_world.specs.Whole.{Writes}
use Rattle.daq_cli.specs.SessionReport.{numbered, numbered_line}
use Rattle.daq_cli.proofs.session_report.write_printed.Given as goal

abbrev pub invariant-loop-at : goal.invariant-loop-at
invariant-loop-at g l =
    Writes {T = Unit {0}} {E = Failed} (Ok tt) (g.K.Sink.state l.initial.out) (g.K.Sink.state l.out) (numbered numbered_line 1 (take l.at (map string_bytes l.sqls)))
