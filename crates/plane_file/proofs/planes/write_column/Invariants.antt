-- What holds as the planes of a column are written: those so far are.
use Rattle.std.proofs.Common.{◌≡◌, Ok, length}
use Rattle.std.specs.List.{flat_map, range_with_len}
use Rattle.daq_table.specs.Tables.{frame_of}
use Rattle.outer_world.specs.declared.device.Failed.{Failed}
use Rattle.outer_world.specs.Whole.{Writes}
use Rattle.plane_kernels.specs.Bytes.{bytes_of_rows}
use Rattle.query_model.specs.Knowledge.{plane_of}
use Rattle.plane_file.specs.ByteDigits.{HoldBlocks}
use Rattle.plane_file.proofs.planes.write_column.Given as goal

abbrev pub invariant-loop-number : goal.invariant-loop-number
invariant-loop-number g l = record {
  rows : length l.plane ≡ length l.initial.plane;
  size : length l.bytes ≡ length l.initial.bytes;
  blocks : length l.blocks ≡ length l.initial.blocks;
  kept : HoldBlocks l.table l.column l.number l.blocks;
  written : Writes {T = Unit {0}} {E = Failed} (Ok tt) (g.K.Sink.state l.initial.sink) (g.K.Sink.state l.sink)
      (flat_map (λ j. bytes_of_rows (plane_of (frame_of l.table.head) l.table.cells l.column j)) (range_with_len 0 l.number));
}
