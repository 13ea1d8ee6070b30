-- The planes of the next column go behind those that were written.
use Rattle.std.proofs.Common.{◌≡◌, length, ap, ◌∙◌, arith}
use Rattle.daq_table.specs.Tables.{frame_of}
use Rattle.daq_table.specs.declared.table_head.Head.{Head}
use Rattle.plane_file.specs.Format.{column_planes}
use Rattle.plane_file.proofs.Parts.{piece_after, piece_cut}
use Rattle.plane_file.proofs.planes.write_planes.Goals as goal

pub returns-in_err-write_column : goal.returns-in_err-write_column
returns-in_err-write_column g c =
    let table = c.args.table.now in
    let count : length c.as_slice-column-end.result.now ≡ length table.head.columns =
    ap length c.as_slice-column-end.ensures ∙ ap (λ (h : Head). length h.columns) c.head.ensures.head in
    piece_cut {A = Unit {0}} {B = Unit {0}} tt _ c.from_residual.result _ _ _ (column_planes (frame_of table.head) table.cells) c.loop-column.column (length table.head.columns) (omega (arith, count))
    c.from_residual.ensures.0 c.loop-column.invariant.written c.in_err-write_column.ensures.written

pub loop-column-preserved : goal.loop-column-preserved
loop-column-preserved g c = record {
  rows = c.write_column.ensures.rows ∙ c.loop-column.invariant.rows;
  size = omega (arith, c.loop-column.invariant.size);
  blocks = omega (arith, c.loop-column.invariant.blocks);
  written = piece_after {A = Unit {0}} {B = Unit {0}} tt tt _ _ _ (column_planes (frame_of c.args.table.now.head) c.args.table.now.cells) c.loop-column.column
      c.loop-column.invariant.written c.in_ok-write_column.ensures.written;
}
