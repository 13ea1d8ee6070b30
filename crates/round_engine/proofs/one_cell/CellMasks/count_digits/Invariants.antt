use Rattle.query_model.specs.Answers.{every_row}
use Rattle.round_engine.proofs.FewCells.{ArePartsBelow}
use Rattle.round_engine.proofs.one_cell.CellMasks.count_digits.Given as goal

abbrev pub invariant-loop-cell : goal.invariant-loop-cell
invariant-loop-cell l = ArePartsBelow l.query every_row l.columns l.cell l.presence
