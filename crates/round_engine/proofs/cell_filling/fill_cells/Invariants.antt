use Rattle.std.proofs.Common.{◌≡◌, ◌*◌, min}
use Rattle.round_engine.specs.CellAnswers.{StandBelow}
use Rattle.round_engine.specs.Engines.{stage_of}
use Rattle.round_engine.proofs.cell_filling.fill_cells.Given as goal

abbrev pub invariant-loop-number : goal.invariant-loop-number
invariant-loop-number l = record {
  same : l.block.frame.columns ≡ l.columns.frame.columns;
  stand : StandBelow (stage_of l.query l.columns) l.item (min (64 * l.number) l.columns.frame.rows) l.running;
}
