use Rattle.std.proofs.Common.{◌≡◌, ℕ, ◌<◌, get_or}
use Rattle.known_column.specs.KnownTables.{column_at}
use Rattle.known_column.specs.RowBlocks.{block_of_column}
use Rattle.known_column.specs.Columns.{KnownColumn}
use Rattle.known_column.proofs.row_block.read_each.Given as goal

abbrev pub invariant-loop-c : goal.invariant-loop-c
invariant-loop-c l = (k : ℕ) (d : KnownColumn) → k < l.c → get_or l.blocks k d ≡ block_of_column (column_at l.columns k) l.block
