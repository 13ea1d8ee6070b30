-- The next plane goes behind those that were written.
use Rattle.std.proofs.Common.{ℕ, ◌∙◌, subst, arith}
use Rattle.daq_table.specs.Tables.{frame_of, planes, ends_at}
use Rattle.outer_world.specs.Whole.{Writes}
use Rattle.plane_kernels.specs.Bytes.{bytes_of_rows}
use Rattle.query_model.specs.Knowledge.{plane_of}
use Rattle.plane_file.proofs.Parts.{piece_after, piece_cut}
use Rattle.plane_file.proofs.planes.write_column.Goals as goal

pub returns-in_err-write_whole-clause-written : goal.returns-in_err-write_whole-clause-written
returns-in_err-write_whole-clause-written g c =
    let plane = λ (j : ℕ). bytes_of_rows (plane_of (frame_of c.args.table.now.head) c.args.table.now.cells c.args.column j) in
    let number = c.loop-number.number in
    piece_cut {A = Unit {0}} {B = Unit {0}} tt _ c.from_residual.result _ _ _ plane number (planes (ends_at (frame_of c.args.table.now.head) c.args.column)) (omega (arith, c.planes_of-number-end.ensures))
    c.from_residual.ensures.0 c.loop-number.invariant.written (subst (Writes _ _ _) c.cut_plane.ensures.bytes c.in_err-write_whole.ensures)

pub loop-number-preserved : goal.loop-number-preserved
loop-number-preserved g c =
    let plane = λ (j : ℕ). bytes_of_rows (plane_of (frame_of c.args.table.now.head) c.args.table.now.cells c.args.column j) in
    let number = c.loop-number.number in
    record {
      rows = c.cut_plane.ensures.rows ∙ c.loop-number.invariant.rows;
      size = omega (arith, c.loop-number.invariant.size);
      blocks = omega (arith, c.loop-number.invariant.blocks);
      kept = c.cut_plane.ensures.kept;
      written = piece_after {A = Unit {0}} {B = Unit {0}} tt tt _ _ _ plane number c.loop-number.invariant.written (subst (Writes _ _ _) c.cut_plane.ensures.bytes c.in_ok-write_whole.ensures);
    }
