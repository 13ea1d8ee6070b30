use Rattle.std.proofs.Common.{◌≡◌, ◌*◌, length, min}
use Rattle.round_engine.specs.Cells.{cells_in}
use Rattle.round_engine.specs.Engines.{stage_of}
use Rattle.round_engine.specs.ReadCells.{AreReadBelow, IsBefore}
use Rattle.round_engine.specs.Stages.{Stage}
use Rattle.round_engine.proofs.read_cells.count_rows.Given as goal

abbrev pub invariant-loop-number : goal.invariant-loop-number
invariant-loop-number l = record {
  room : l.ones.room ≡ l.fn.ones.room;
  cells : length l.ones.cells ≡ cells_in (stage_of l.query l.columns);
  highs : length l.ones.highs ≡ cells_in (stage_of l.query l.columns);
  counted : (before : Stage) → IsBefore (stage_of l.query l.columns) l.item l.plane before →
      AreReadBelow before (stage_of l.query l.columns) l.item l.rows.ends l.rows.single.now (min (64 * l.number) l.columns.frame.rows) l.ones;
}
