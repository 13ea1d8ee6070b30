-- Rows of a column, by how many they are and what the digits of their numbers come to.
use Rattle.std.specs.Prelude.{◌≡◌, ℕ, Bool, ◌&&◌, List, length, map, take}
use Rattle.std.specs.List.{count_by}
use Rattle.std.specs.Simd.Lanes.{zip2}
use Rattle.known_column.specs.Columns.{KnownColumn, is_at_top, number_of, rows_of_column}
use Rattle.aggregates.specs.declared.row_sums.RowSums.{RowSums}
use Rattle.aggregates.specs.Selections.{MayHaveValues, block_of, sum_where}

-- those of a mask's rows that have these prefixes: how many they are, how many of them are at top's prefix, and the digits that were read
-- of their numbers, added up as numbers
pub record AreSums (column : KnownColumn) (prefixes : List ℕ) (mask : List Bool) (sums : RowSums) : Type 0 where
  pub rows : sums.rows ≡ count_by (λ b. b) mask
  pub at_top : sums.at_top ≡ count_by (λ b. b) (zip2 (λ a b. a && b) mask (map (is_at_top column.ends column.known.read) prefixes))
  pub numbers : sums.numbers ≡ sum_where mask (map (number_of column.ends column.known.read) prefixes)

-- of all rows, of those of a block of 512, and of the first
abbrev pub AreSumsOf : KnownColumn → List Bool → RowSums → Type 0
AreSumsOf column mask sums = AreSums column column.known.prefixes mask sums

abbrev pub AreSumsInBlock : KnownColumn → ℕ → List Bool → RowSums → Type 0
AreSumsInBlock column block mask sums = AreSums column (block_of block column.known.prefixes) (block_of block mask) sums

abbrev pub AreSumsBelow : KnownColumn → ℕ → List Bool → RowSums → Type 0
AreSumsBelow column to mask sums = AreSums column (take to column.known.prefixes) (take to mask) sums

-- they are those of some rows that may have values
pub record AreSomeSums (column : KnownColumn) (sums : RowSums) : Type 0 where
  pub mask : List Bool
  pub rows : length mask ≡ rows_of_column column
  pub values : MayHaveValues column mask
  pub are : AreSumsOf column mask sums
