use Rattle.round_engine.specs.KeptCells.{AreSumsOf}
use Rattle.round_engine.specs.OneCell.{HoldMasks}
use Rattle.round_engine.proofs.FewCells.{ArePartsBelow}
use Rattle.round_engine.proofs.one_cell.CellMasks.fill_parts.Given as goal

abbrev pub invariant-loop-cell : goal.invariant-loop-cell
invariant-loop-cell l = record {
  masks : HoldMasks l.columns.frame.rows l.self;
  kept : AreSumsOf l.columns l.item l.kept;
  parts : ArePartsBelow l.query l.item l.columns l.cell l.running;
}
