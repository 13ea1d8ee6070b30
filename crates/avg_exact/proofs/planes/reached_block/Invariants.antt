use Rattle.std.proofs.Common.{◌≡◌, ◌-◌}
use Rattle.aggregates.specs.Selections.{block_of}
use Rattle.aggregates.proofs.BlockSums.{column_block}
use Rattle.avg_exact.specs.Blocks.{column_of, is_unsure_row, rows_with}
use Rattle.avg_exact.proofs.Reaching.{beyond_at, level_at, rows_that}
use Rattle.avg_exact.proofs.planes.reached_block.Given as goal

abbrev pub invariant-loop-j : goal.invariant-loop-j
invariant-loop-j l =
    let column = column_block (column_of l.engine l.column) l.block in
    let rows = block_of l.block (rows_with l.engine l.item is_unsure_row) in
    record {
      level : l.level ≡ rows_that (level_at column l.t (column.known.read - l.j)) rows column.known.prefixes;
      beyond : l.beyond ≡ rows_that (beyond_at l.end column l.t (column.known.read - l.j)) rows column.known.prefixes;
    }
