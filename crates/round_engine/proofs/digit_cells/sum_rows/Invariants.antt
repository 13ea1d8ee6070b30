use Rattle.std.proofs.Common.{◌*◌, min}
use Rattle.round_engine.specs.DigitCells.{AreDigitSums}
use Rattle.round_engine.specs.Engines.{stage_of}
use Rattle.round_engine.proofs.digit_cells.sum_rows.Given as goal

abbrev pub invariant-loop-number : goal.invariant-loop-number
invariant-loop-number l = AreDigitSums (stage_of l.query l.columns) l.item l.rows.known.now l.rows.single.now (min (64 * l.number) l.columns.frame.rows) l.sums
