use Rattle.aggregates.specs.Selections.{block_of}
use Rattle.avg_exact.specs.Blocks.{block_column, column_of, part_rows}
use Rattle.avg_exact.proofs.FurthestRows.{IsNarrowed}
use Rattle.avg_exact.proofs.furthest.furthest_in_block.Given as goal

abbrev pub invariant-loop-j : goal.invariant-loop-j
invariant-loop-j l =
    IsNarrowed l.toward (block_column (column_of l.engine l.column) l.block) (block_of l.block (part_rows l.engine l.item l.column l.fn.part)) l.from l.j l.number l.level
