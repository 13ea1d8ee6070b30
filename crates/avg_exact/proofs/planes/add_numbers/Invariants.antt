use Rattle.std.proofs.Common.{◌≡◌, ◌-◌}
use Rattle.aggregates.proofs.BlockSums.{column_block}
use Rattle.aggregates.proofs.EndSums.{sum_short}
use Rattle.avg_exact.specs.Blocks.{column_of}
use Rattle.avg_exact.proofs.planes.add_numbers.Given as goal

abbrev pub invariant-loop-j : goal.invariant-loop-j
invariant-loop-j l =
    let column = column_block (column_of l.engine l.column) l.block in
    l.sum ≡ sum_short column l.rows (column.known.read - l.j)
