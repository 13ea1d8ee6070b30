use Rattle.std.proofs.Common.{◌≡◌, ℕ, ◌+◌, ◌*◌, true, length}
use Rattle.known_column.specs.Columns.{count_in_block}
use Rattle.plane_kernels.specs.Rows.{digit_at}
use Rattle.round_engine.specs.Engines.{stage_of}
use Rattle.round_engine.specs.ReadCells.{AreReadBelow, IsBefore}
use Rattle.round_engine.specs.Stages.{Stage}
use Rattle.round_engine.proofs.SetBits.{AreDone}
use Rattle.round_engine.proofs.read_cells.count_sure.Given as goal

abbrev pub invariant-loop-rest : goal.invariant-loop-rest
invariant-loop-rest l = record {
  room : l.ones.room ≡ l.fn.ones.room;
  cells : length l.ones.cells ≡ length l.fn.ones.cells;
  highs : length l.ones.highs ≡ length l.fn.ones.highs;
  inside : (row : ℕ) → digit_at row l.rest ≡ true → digit_at row l.counted ≡ true;
  done : (before : Stage) → IsBefore (stage_of l.query l.columns) l.item l.plane before →
      AreReadBelow before (stage_of l.query l.columns) l.item l.rows.ends l.rows.single.now (64 * l.number) l.fn.ones →
      AreDone (count_in_block l.number l.columns.frame.rows) l.counted l.rest (λ r. AreReadBelow before (stage_of l.query l.columns) l.item l.rows.ends l.rows.single.now (64 * l.number + r) l.ones);
}

abbrev pub decreases-loop-rest : goal.decreases-loop-rest
decreases-loop-rest l = l.rest
