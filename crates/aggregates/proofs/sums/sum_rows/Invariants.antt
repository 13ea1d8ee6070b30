use Rattle.std.proofs.Common.{◌≡◌, ◌-◌, length}
use Rattle.plane_kernels.specs.Rows.{block_rows, rows_of}
use Rattle.aggregates.proofs.BlockSums.{column_block}
use Rattle.aggregates.proofs.EndSums.{sum_short}
use Rattle.aggregates.proofs.sums.sum_rows.Given as goal

abbrev pub invariant-loop-j : goal.invariant-loop-j
invariant-loop-j l = l.sum ≡ sum_short (column_block l.known l.block) (rows_of (block_rows (length l.known.known.prefixes) l.block) l.rows) (l.known.known.read - l.j)
