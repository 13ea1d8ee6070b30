-- Sets of truths of the rows of a block of 512, and some of its rows: a bit for each row, in eight words.
use Rattle.std.specs.Prelude.{◌≡◌, ℕ, ◌+◌, ◌*◌, ◌/◌, ◌%◌, ◌≤◌, ◌<◌, ℤ}
use Rattle.std.specs.Prelude.{Bool, true, false, not, IsTrue, List, length, take, drop, slice_index_or}
use Rattle.plane_kernels.specs.Rows.{block_rows, digit_at, rows_of, IsPadded}
use Rattle.query_model.specs.declared.bounds.Truths.{Truths}
use Rattle.query_model.specs.Truths.{is_false, is_true, may_be_number, truth_over, truths_over}
use Rattle.known_column.specs.Columns.{KnownColumn, missing_at, numbers_at, range_at, rows_of_column}
use Rattle.known_column.specs.KnownTables.{KnownTable, column_at}
use Rattle.kleene_filter.specs.declared.block_truths.BlockTruths.{BlockTruths}

-- the bit of a row of a block: bit row % 64 of word row / 64
abbrev pub bit_in : ℕ → List ℕ → Bool
bit_in row rows = digit_at (row % 64) (slice_index_or rows (row / 64) 0)

-- the bits of a row are its truths
pub record HasTruths (row : ℕ) (truths : Truths) (block : BlockTruths) : Type 0 where
  pub hold : bit_in row block.may_hold ≡ truths.may_hold
  pub fail : bit_in row block.may_fail ≡ truths.may_fail
  pub null : bit_in row block.may_be_null ≡ truths.may_be_null

-- the truths of a condition that may fail in any case, is not null, and may hold at best
abbrev pub at_best : Bool → Truths
at_best may_hold = record { may_hold = may_hold; may_fail = true; may_be_null = false }

-- such are its truths at the first rows of a block, and it may hold at these of them
abbrev pub HoldsAtBest : ℕ → (ℕ → Truths) → List ℕ → Type 0
HoldsAtBest count at rows = (row : ℕ) → row < count → at row ≡ at_best (bit_in row rows)

-- the bits of the rows of a block from one to another are their truths
abbrev pub AreTruthsFrom : ℕ → ℕ → (ℕ → Truths) → BlockTruths → Type 0
AreTruthsFrom from to at block = (row : ℕ) → from ≤ row → row < to → HasTruths row (at row) block

-- the truths of a test of a column's values at the rows of a block
abbrev pub AreTruthsInColumn : KnownColumn → ℕ → (ℤ → Bool) → BlockTruths → Type 0
AreTruthsInColumn column block test truths =
    AreTruthsFrom 0 (block_rows (rows_of_column column) block) (λ r. truths_over (range_at column (512 * block + r)) test) truths

-- the same of a column of a table
abbrev pub AreTruthsInTable : KnownTable → ℕ → ℕ → (ℤ → Bool) → BlockTruths → Type 0
AreTruthsInTable table c block test truths =
    AreTruthsFrom 0 (block_rows table.frame.rows block) (λ r. truths_over (range_at (column_at table c) (512 * block + r)) test) truths

-- where a row of a block may have a number, two bits tell whether the number may pass the test and may fail it
pub record AreOnNumbers (column : KnownColumn) (block : ℕ) (test : ℤ → Bool) (passes fails : List ℕ) : Type 0 where
  pub pass : (r : ℕ) → r < block_rows (rows_of_column column) block → IsTrue (may_be_number (missing_at column (512 * block + r))) →
      bit_in r passes ≡ not (is_false (truth_over (numbers_at column (512 * block + r)) test))
  pub fail : (r : ℕ) → r < block_rows (rows_of_column column) block → IsTrue (may_be_number (missing_at column (512 * block + r))) →
      bit_in r fails ≡ not (is_true (truth_over (numbers_at column (512 * block + r)) test))

-- these are the rows of a block that are in the mask, with no bit behind the last
pub record AreRowsIn (mask : List Bool) (block : ℕ) (rows : List ℕ) : Type 0 where
  pub are : rows_of (block_rows (length mask) block) rows ≡ take 512 (drop (512 * block) mask)
  pub padded : IsPadded (block_rows (length mask) block) rows

-- the bits of a mask at the rows of a block are these, and the others are as they were
pub record IsPut (block : ℕ) (own : List ℕ) (old new : List Bool) : Type 0 where
  pub rows : length new ≡ length old
  pub before : (k : ℕ) → k < 512 * block → slice_index_or new k false ≡ slice_index_or old k false
  pub behind : (k : ℕ) → 512 * block + 512 ≤ k → slice_index_or new k false ≡ slice_index_or old k false
  pub here : (row : ℕ) → row < block_rows (length old) block → slice_index_or new (512 * block + row) false ≡ bit_in row own
