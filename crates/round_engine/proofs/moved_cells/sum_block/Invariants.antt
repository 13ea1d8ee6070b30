use Rattle.std.proofs.Common.{◌≡◌, ℕ, ◌+◌, ◌*◌, true, length}
use Rattle.known_column.specs.Columns.{count_in_block}
use Rattle.plane_kernels.specs.Rows.{digit_at}
use Rattle.round_engine.specs.Engines.{stage_of}
use Rattle.round_engine.specs.MovedCells.{AreMovedBelow, IsMovedFrom}
use Rattle.round_engine.specs.SeenRows.{WereRows}
use Rattle.round_engine.specs.Stages.{Stage}
use Rattle.round_engine.proofs.SetBits.{AreDone}
use Rattle.round_engine.proofs.moved_cells.sum_block.Given as goal

abbrev pub invariant-loop-rest : goal.invariant-loop-rest
invariant-loop-rest l = record {
  room : l.moves.room ≡ l.fn.moves.room;
  cells : length l.moves.cells ≡ length l.fn.moves.cells;
  inside : (row : ℕ) → digit_at row l.rest ≡ true → digit_at row l.moved ≡ true;
  counted : (before : Stage) → IsMovedFrom (stage_of l.query l.columns) l.item before → WereRows before l.seen.must l.seen.may →
      AreMovedBelow before (stage_of l.query l.columns) l.item (64 * l.number) l.fn.moves →
      AreDone (count_in_block l.number l.columns.frame.rows) l.moved l.rest (λ r. AreMovedBelow before (stage_of l.query l.columns) l.item (64 * l.number + r) l.moves);
}

abbrev pub decreases-loop-rest : goal.decreases-loop-rest
decreases-loop-rest l = l.rest
