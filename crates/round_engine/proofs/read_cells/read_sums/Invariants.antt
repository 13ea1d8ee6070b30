use Rattle.std.proofs.Common.{◌≡◌, ℕ, ◌<◌, ◌≤◌, length, slice_get}
use Rattle.aggregates.specs.Runnings.{StandsFor}
use Rattle.query_model.specs.Groups.{pairs_in_cell_below}
use Rattle.round_engine.specs.CellAnswers.{HasRoom, StandForCells}
use Rattle.round_engine.specs.Cells.{cells_in}
use Rattle.round_engine.specs.Engines.{stage_of}
use Rattle.round_engine.specs.ReadCells.{AreReadBelow}
use Rattle.round_engine.specs.Stages.{Stage}
use Rattle.round_engine.proofs.read_cells.read_sums.Given as goal

abbrev pub invariant-loop-cell : goal.invariant-loop-cell
invariant-loop-cell l = record {
  room : HasRoom (stage_of l.query l.columns) l.item l.running;
  count : length l.running.cells ≡ cells_in (stage_of l.query l.columns);
  rest : (k : ℕ) → l.cell ≤ k → slice_get l.running.cells k ≡ slice_get l.initial.running.cells k;
  done : (before : Stage) → before.frame.rows ≡ l.columns.frame.rows → StandForCells before l.item l.initial.running →
      AreReadBelow before (stage_of l.query l.columns) l.item l.rows.ends l.rows.single.now l.columns.frame.rows l.ones → (k : ℕ) → k < l.cell →
      StandsFor l.running k (pairs_in_cell_below l.query l.item k l.columns.frame l.columns.known l.columns.frame.rows);
}
