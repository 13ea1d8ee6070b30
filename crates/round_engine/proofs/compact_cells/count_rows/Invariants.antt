use Rattle.std.proofs.Common.{◌*◌, min}
use Rattle.round_engine.specs.CellAnswers.{StandBelow}
use Rattle.round_engine.specs.Engines.{stage_of}
use Rattle.round_engine.proofs.compact_cells.count_rows.Given as goal

abbrev pub invariant-loop-number : goal.invariant-loop-number
invariant-loop-number l = StandBelow (stage_of l.query l.columns) l.item (min (64 * l.number) l.columns.frame.rows) l.counts
