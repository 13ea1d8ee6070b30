use Rattle.round_engine.specs.DigitCells.{AreDigitSums}
use Rattle.round_engine.specs.Engines.{stage_of}
use Rattle.round_engine.proofs.digit_cells.sum_block.Given as goal

abbrev pub invariant-loop-row : goal.invariant-loop-row
invariant-loop-row l = AreDigitSums (stage_of l.query l.columns) l.item l.rows.known.now l.rows.single.now l.row l.sums
