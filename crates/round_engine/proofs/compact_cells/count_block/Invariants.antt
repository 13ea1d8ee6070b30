use Rattle.round_engine.specs.CellAnswers.{StandBelow}
use Rattle.round_engine.specs.Engines.{stage_of}
use Rattle.round_engine.proofs.compact_cells.count_block.Given as goal

abbrev pub invariant-loop-row : goal.invariant-loop-row
invariant-loop-row l = StandBelow (stage_of l.query l.columns) l.item l.row l.counts
