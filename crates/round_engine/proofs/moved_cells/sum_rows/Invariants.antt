use Rattle.std.proofs.Common.{◌≡◌, ◌*◌, length, min}
use Rattle.round_engine.specs.Cells.{cells_in}
use Rattle.round_engine.specs.Engines.{stage_of}
use Rattle.round_engine.specs.MovedCells.{AreMovedBelow, IsMovedFrom}
use Rattle.round_engine.specs.SeenRows.{WereRows}
use Rattle.round_engine.specs.Stages.{Stage}
use Rattle.round_engine.proofs.moved_cells.sum_rows.Given as goal

abbrev pub invariant-loop-number : goal.invariant-loop-number
invariant-loop-number l = record {
  room : l.moves.room ≡ l.fn.moves.room;
  cells : length l.moves.cells ≡ cells_in (stage_of l.query l.columns);
  counted : (before : Stage) → IsMovedFrom (stage_of l.query l.columns) l.item before → WereRows before l.seen.must l.seen.may →
      AreMovedBelow before (stage_of l.query l.columns) l.item (min (64 * l.number) l.columns.frame.rows) l.moves;
}
