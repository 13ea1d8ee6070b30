use Rattle.std.specs.Prelude.{IfSome}
use Rattle.product_sums.specs.KeptProducts.{IsKeptProduct}
use Rattle.round_engine.specs.OneCell.{HoldMasks}
use Rattle.round_engine.proofs.FewCells.{ArePartsBelow}
use Rattle.round_engine.proofs.one_cell.CellMasks.fill_counted.Given as goal

abbrev pub invariant-loop-cell : goal.invariant-loop-cell
invariant-loop-cell l = record {
  masks : HoldMasks l.columns.frame.rows l.self;
  kept : IfSome l.kept (IsKeptProduct l.columns l.item.arg);
  parts : ArePartsBelow l.query l.item l.columns l.cell l.running;
}
