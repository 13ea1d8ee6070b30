-- The rows of a mask, and the ends of the numbers that their values in a column may be.
use Rattle.std.specs.Prelude.{◌≡◌, ℕ, ◌+◌, ◌-◌, ◌*◌, ◌/◌, ◌^◌, ◌≤◌, ℤ, pos, negsuc, ◌≤ℤ◌}
use Rattle.std.specs.Prelude.{Bool, false, cond, ◌&&◌, List, [], ◌∷◌, length, map, take, drop, slice_index_or, IsTrue}
use Rattle.std.specs.List.{filter, range_with_len}
use Rattle.interval_calc.specs.Intervals.{Interval}
use Rattle.daq_table.specs.Tables.{planes, width}
use Rattle.query_model.specs.Truths.{may_be_number}
use Rattle.known_column.specs.Columns.{KnownColumn, number_of, range_at}
use Rattle.known_column.specs.RowBlocks.{IsKnownColumn}
use Rattle.aggregates.specs.declared.ends.End.{End}
use Rattle.aggregates.specs.declared.ends.End.TheVariants.{Low, High}

-- the mask has this row
abbrev pub has_row : List Bool → ℕ → Bool
has_row mask row = slice_index_or mask row false

-- the numbers of the mask's rows
abbrev pub rows_in : List Bool → List ℕ
rows_in mask = filter (has_row mask) (range_with_len 0 (length mask))

-- each row of the mask may have a value: it is not surely null
abbrev pub MayHaveValues : KnownColumn → List Bool → Type 0
MayHaveValues column mask = (row : ℕ) → IsTrue (has_row mask row) → IsTrue (may_be_number (range_at column row).null)

-- some of a mask's rows
pub record IsPartOf (some mask : List Bool) : Type 0 where
  pub rows : length some ≡ length mask
  pub nested : (row : ℕ) → IsTrue (has_row some row) → IsTrue (has_row mask row)

-- one of an interval's ends
abbrev pub end_of : End → Interval → ℤ
end_of Low i = i.low
end_of High i = i.high

-- an end of the numbers that a row's value may be
abbrev pub end_at : End → KnownColumn → ℕ → ℤ
end_at end column row = end_of end (range_at column row).numbers

-- that end at each of the mask's rows
abbrev pub ends_in : End → KnownColumn → List Bool → List ℤ
ends_in end column mask = map (end_at end column) (rows_in mask)

abbrev pub lows_in : KnownColumn → List Bool → List ℤ
lows_in column mask = map (λ row. (range_at column row).numbers.low) (rows_in mask)

abbrev pub highs_in : KnownColumn → List Bool → List ℤ
highs_in column mask = map (λ row. (range_at column row).numbers.high) (rows_in mask)

-- the mask with those of its rows that meet a test
abbrev pub those_of : List Bool → (ℕ → Bool) → List Bool
those_of mask test = map (λ row. has_row mask row && test row) (range_with_len 0 (length mask))

-- numbers of a list at the mask's rows, added up
abbrev pub sum_where : List Bool → List ℕ → ℕ
sum_where [] numbers = 0
sum_where (b ∷ mask) [] = 0
sum_where (b ∷ mask) (n ∷ numbers) = cond b n 0 + sum_where mask numbers

-- what stands in a block of 512 rows
abbrev pub block_of : {A : Type 0} → ℕ → List A → List A
block_of block rows = take 512 (drop (512 * block) rows)

-- the number that the first digits of a prefix make, those that so many planes gave
abbrev pub early_number : KnownColumn → ℕ → ℕ → ℕ
early_number column read prefix = number_of column.ends read (prefix / 2 ^ (column.known.read - read))

-- what so many planes, the first, gave of the numbers at the mask's rows, added up as numbers
abbrev pub sum_of_first : KnownColumn → ℕ → List Bool → ℕ
sum_of_first column read mask = sum_where mask (map (early_number column read) column.known.prefixes)

-- what holds of every column: its prefixes are those of cells, and its numbers have at most 64 binary digits
pub record IsSound (column : KnownColumn) : Type 0 where
  pub known : IsKnownColumn column
  pub digits : width column.ends ≤ 64

-- the digits that were read of the numbers at the mask's rows, added up as numbers: the sum, and that it is small
pub record IsSumOfDigits (column : KnownColumn) (mask : List Bool) (sum : ℕ) : Type 0 where
  pub adds : sum ≡ sum_where mask (map (number_of column.ends column.known.read) column.known.prefixes)
  pub few : sum * 2 ^ (planes column.ends - column.known.read) ≤ 2 ^ 89
  pub sound : IsSound column

-- at most 2 ^ 92 in size, as each sum of 64-bit numbers at 2 ^ 24 rows: two of them can be added
abbrev pub IsSmallSum : ℤ → Type 0
IsSmallSum sum = (negsuc 4951760157141521099596496896 ≤ℤ sum) × (sum ≤ℤ pos 4951760157141521099596496896)
