use Rattle.std.proofs.Common.{ℕ, ◌<◌}
use Rattle.clip_bounds.specs.ClipLaws.{IsOfLongs}
use Rattle.daq_table.specs.Tables.{frame_of}
use Rattle.table_rounds.proofs.longs.heads_are_of_longs.Given as goal

-- the columns so far are of 64 bits
abbrev pub invariant-loop-column : goal.invariant-loop-column
invariant-loop-column l = (c : ℕ) → c < l.column → IsOfLongs (frame_of l.head) c
