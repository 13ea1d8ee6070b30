-- What holds as the parts are written: those so far are.
use Rattle.std.proofs.Common.{Ok, map, take}
use Rattle.std.specs.Simd.Lanes.{zip2}
use Rattle.outer_world.specs.declared.device.Failed.{Failed}
use Rattle.outer_world.specs.Whole.{Writes}
use Rattle.row_groups.specs.Partition.{range_for}
use Rattle.daq_report.specs.Groups.{listed, part_text}
use Rattle.daq_report.specs.Intervals.{column_of}
use Rattle.daq_report.proofs.keys.write_key.Given as goal

abbrev pub invariant-loop-place : goal.invariant-loop-place
invariant-loop-place g l =
    Writes {T = Unit {0}} {E = Failed} (Ok tt) (g.K.Sink.state l.initial.out) (g.K.Sink.state l.out)
    (listed (take l.place (zip2 (λ c range. part_text (column_of l.head l.query c) range) l.columns (map range_for l.parts))))
