-- What a column is known by: its ends, how many planes were read, and a prefix for each row.
use Rattle.std.specs.Prelude.{ℕ, ◌+◌, ◌-◌, ◌*◌, ◌/◌, ◌%◌, ◌^◌, ◌<◌, ◌==◌, nat_lt, pos, ◌≤ℤ◌}
use Rattle.std.specs.Prelude.{nat_abs, min, Bool, not, ◌&&◌, List, length, map, replicate, take, drop, slice_index, Some}
use Rattle.interval_calc.specs.Intervals.{Interval}
use Rattle.daq_table.specs.declared.head.Ends.{Ends}
use Rattle.daq_table.specs.Tables.{Cell, spread}
use Rattle.query_model.specs.declared.bounds.Nullity.{Nullity}
use Rattle.query_model.specs.Truths.{Range, may_be_null, may_be_number}
use Rattle.query_model.specs.Knowledge.{ColumnKnowledge, IsLegal, longer, longer_column, null_with, prefix_of, range_of}

-- what is declared of a column, and what was read of it
pub record KnownColumn : Type 0 where
  pub ends : Ends
  pub known : ColumnKnowledge

-- nothing is read
abbrev pub unread_column : Ends → ℕ → KnownColumn
unread_column ends rows = record { ends = ends; known = record { read = 0; prefixes = replicate rows 0 } }

-- after the next plane, with these bits
abbrev pub read_further : KnownColumn → List Bool → KnownColumn
read_further column bits = record { ends = column.ends; known = longer_column column.known bits }

abbrev pub rows_of_column : KnownColumn → ℕ
rows_of_column column = length column.known.prefixes

-- what the row's value may be
abbrev pub range_at : KnownColumn → ℕ → Range
range_at column row = range_of column.ends column.known.read (slice_index column.known.prefixes row)

-- with these bits as the next plane, the row's prefix stays that of some cell
abbrev pub StaysLegal : KnownColumn → List Bool → ℕ → Type 0
StaysLegal column bits row = IsLegal column.ends (column.known.read + 1) (slice_index (longer column.known.prefixes bits) row)

-- the row is the first whose prefix would be that of no cell
pub record IsFirstOver (column : KnownColumn) (bits : List Bool) (row : ℕ) : Type 0 where
  pub in_range : row < rows_of_column column
  pub over : ¬ StaysLegal column bits row
  pub first : (r : ℕ) → r < row → StaysLegal column bits r

-- the numbers that the row's value may be, and whether it may be null
abbrev pub numbers_at : KnownColumn → ℕ → Interval
numbers_at column row = (range_at column row).numbers

abbrev pub missing_at : KnownColumn → ℕ → Nullity
missing_at column row = (range_at column row).null

-- ---- rows by their prefixes

-- a row is in these where its prefix passes the test
abbrev pub rows_where : (Ends → ℕ → ℕ → Bool) → KnownColumn → List Bool
rows_where test column = map (test column.ends column.known.read) column.known.prefixes

-- the value is surely not null
abbrev pub is_sure : Ends → ℕ → ℕ → Bool
is_sure ends read prefix = not (may_be_null (null_with ends read prefix))

-- the value is not surely null
abbrev pub is_possible : Ends → ℕ → ℕ → Bool
is_possible ends read prefix = may_be_number (null_with ends read prefix)

-- the prefix is that of the column's greatest number
abbrev pub is_at_top : Ends → ℕ → ℕ → Bool
is_at_top ends read prefix = prefix == prefix_of ends read (Some (spread ends))

-- the cell of the number 0, where the column may have it
abbrev pub zero_cell : Ends → Cell
zero_cell ends = Some (nat_abs ends.base)

-- 0 lies between base and top
abbrev pub HasZero : Ends → Type 0
HasZero ends = (ends.base ≤ℤ pos 0) × (pos 0 ≤ℤ ends.top)

-- the value is not surely null, and the prefix lies below that of 0, is that of 0, lies above it.
-- A null's prefix is 0 and lies below both others
abbrev pub is_below_zero : Ends → ℕ → ℕ → Bool
is_below_zero ends read prefix = is_possible ends read prefix && nat_lt prefix (prefix_of ends read (zero_cell ends))

abbrev pub is_level_zero : Ends → ℕ → ℕ → Bool
is_level_zero ends read prefix = prefix == prefix_of ends read (zero_cell ends)

abbrev pub is_above_zero : Ends → ℕ → ℕ → Bool
is_above_zero ends read prefix = nat_lt (prefix_of ends read (zero_cell ends)) prefix

-- the digit that plane j gave, of a prefix of so many
abbrev pub digit_of : ℕ → ℕ → ℕ → Bool
digit_of read j prefix = (prefix / 2 ^ (read - (j + 1))) % 2 == 1

-- the digits of the number alone: in a nullable column, the prefix without the digit that tells null
abbrev pub number_of : Ends → ℕ → ℕ → ℕ
number_of ends read prefix = prefix - prefix_of ends read (Some 0)

-- ---- blocks of 64 rows

-- how many rows of so many stand in the block
abbrev pub count_in_block : ℕ → ℕ → ℕ
count_in_block block rows = min 64 (rows - 64 * block)

abbrev pub block_rows : {A : Type 0} → ℕ → List A → List A
block_rows block rows = take 64 (drop (64 * block) rows)

-- the digits of the numbers of a block's rows
abbrev pub numbers_of_block : KnownColumn → ℕ → List ℕ
numbers_of_block column block = map (number_of column.ends column.known.read) (block_rows block column.known.prefixes)
