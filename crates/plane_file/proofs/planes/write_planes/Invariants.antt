-- What holds as the planes of a table are written: those of the columns so far are.
use Rattle.std.proofs.Common.{◌≡◌, Ok, length}
use Rattle.std.specs.List.{flat_map, range_with_len}
use Rattle.daq_table.specs.Tables.{frame_of}
use Rattle.outer_world.specs.declared.device.Failed.{Failed}
use Rattle.outer_world.specs.Whole.{Writes}
use Rattle.plane_file.specs.Format.{column_planes}
use Rattle.plane_file.proofs.planes.write_planes.Given as goal

abbrev pub invariant-loop-column : goal.invariant-loop-column
invariant-loop-column g l = record {
  rows : length l.plane ≡ length l.initial.plane;
  size : length l.bytes ≡ length l.initial.bytes;
  blocks : length l.blocks ≡ length l.initial.blocks;
  written : Writes {T = Unit {0}} {E = Failed} (Ok tt) (g.K.Sink.state l.initial.sink) (g.K.Sink.state l.sink)
      (flat_map (column_planes (frame_of l.table.head) l.table.cells) (range_with_len 0 l.column));
}
