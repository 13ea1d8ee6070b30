-- Sums that are kept from one plane to the next.
use Rattle.std.specs.Prelude.{◌≡◌, ℕ, ◌+◌, ◌*◌, ◌<◌, ◌≤◌, Bool, true, List, length, replicate, count_by}
use Rattle.known_column.specs.Columns.{KnownColumn, rows_of_column}
use Rattle.aggregates.specs.declared.kept_sum.KeptSum.{KeptSum}
use Rattle.aggregates.specs.Selections.{sum_of_first}
use Rattle.aggregates.specs.Widening.{CoverOthers}

-- rows of the column are kept, how many they are, and what its first planes gave of their numbers. Further planes leave that as it is
pub record IsKept (column : KnownColumn) (kept : KeptSum) : Type 0 where
  pub rows : length kept.mask ≡ rows_of_column column
  pub count : kept.count ≡ count_by (λ b. b) kept.mask
  pub some_read : kept.read ≤ column.known.read
  pub adds : kept.number ≡ sum_of_first column kept.read kept.mask

-- from what is kept to the rows of a mask, rows come and leave in the blocks of 512 alone that are kept with it
abbrev pub MovesInBlocks : List Bool → KeptSum → Type 0
MovesInBlocks mask kept = CoverOthers kept.mask mask kept.blocks

-- there is a bit for each block of so many rows, and rows may move in each
pub record MovesAnywhere (rows : ℕ) (kept : KeptSum) : Type 0 where
  pub room : rows ≤ 512 * length kept.blocks
  pub tight : 512 * length kept.blocks < rows + 512
  pub each : kept.blocks ≡ replicate (length kept.blocks) true

-- it can follow to the rows of this mask, and then keep these blocks
pub record CanFollow (mask next : List Bool) (kept : KeptSum) : Type 0 where
  pub moves : MovesInBlocks mask kept
  pub count : length next ≡ length kept.blocks

-- what is kept are the rows of this mask, and the blocks in which they may move next
pub record HasFollowed (mask next : List Bool) (kept : KeptSum) : Type 0 where
  pub rows : kept.mask ≡ mask
  pub blocks : kept.blocks ≡ next
