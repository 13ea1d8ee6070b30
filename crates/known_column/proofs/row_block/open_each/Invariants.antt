use Rattle.std.proofs.Common.{◌≡◌, map}
use Rattle.std.specs.List.{range_with_len}
use Rattle.daq_table.specs.Tables.{ends_at}
use Rattle.known_column.specs.Columns.{unread_column}
use Rattle.known_column.proofs.row_block.open_each.Given as goal

abbrev pub invariant-loop-c : goal.invariant-loop-c
invariant-loop-c l = l.blocks.items ≡ map (λ c. unread_column (ends_at l.columns.frame c) 0) (range_with_len 0 l.c)
