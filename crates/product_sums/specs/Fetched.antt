-- Words of a block of a column's planes, fetched once for all rows that are counted in it.
use Rattle.std.specs.Prelude.{◌≡◌, ℕ, ◌+◌, ◌-◌, ◌*◌, ◌<◌, ◌≤◌, min, Bool, cond, List, [], length, map, take, drop, get_or, pos, ◌*ℤ◌}
use Rattle.known_column.specs.Columns.{KnownColumn, digit_of, is_at_top}
use Rattle.known_column.specs.KnownTables.{KnownTable, column_at}
use Rattle.plane_kernels.specs.Rows.{block_rows, rows_of, IsPadded}
use Rattle.query_model.specs.Queries.{Column}
use Rattle.product_sums.specs.declared.factors.Factor.{Factor}
use Rattle.product_sums.specs.declared.fetched.Fetched.{Fetched}
use Rattle.product_sums.specs.Products.{product_at, term_end, HasValue, HaveValues}

-- words of a block of these rows
pub record IsBlockOf (rows : List Bool) (block : ℕ) (words : List ℕ) : Type 0 where
  pub bits : rows_of (block_rows (length rows) block) words ≡ take 512 (drop (512 * block) rows)
  pub padded : IsPadded (block_rows (length rows) block) words

-- the first plane that holds a digit of a number
abbrev pub first_digit : KnownColumn → ℕ
first_digit column = min (cond column.ends.nullable 1 0) column.known.read

-- the rows with a bit of 1 in a plane
abbrev pub ones_of : KnownColumn → ℕ → List Bool
ones_of column j = map (digit_of column.known.read j) column.known.prefixes

-- the words of those planes before this one that hold digits
abbrev pub AreFetchedBelow : KnownColumn → ℕ → List (List ℕ) → ℕ → Type 0
AreFetchedBelow column block planes end =
    (j : ℕ) → first_digit column ≤ j → j < end → IsBlockOf (ones_of column j) block (get_or planes (j - first_digit column) [])

-- the words of all planes that hold digits, and those of the rows at top's prefix
pub record IsFetched (column : KnownColumn) (block : ℕ) (fetched : Fetched) (room : List (List ℕ)) : Type 0 where
  pub few : column.known.read ≤ first_digit column + 32
  pub planes : AreFetchedBelow column block room column.known.read
  pub tops : IsBlockOf (map (is_at_top column.ends column.known.read) column.known.prefixes) block fetched.tops

-- these are words of this column
pub record IsFetchedColumn (table : KnownTable) (c block : ℕ) (fetched : Fetched) (room : List (List ℕ)) : Type 0 where
  pub column : fetched.column ≡ c
  pub words : IsFetched (column_at table c) block fetched room

-- the only one of some factors is an end of a column, of which a block is fetched
pub record IsLone (table : KnownTable) (block : ℕ) (factors : List Factor) (fetched : Fetched) (room : List (List ℕ)) : Type 0 where
  pub there : fetched.column < length table.frame.columns
  pub words : IsFetched (column_at table fetched.column) block fetched room
  pub product : (row : ℕ) → product_at table factors row ≡ term_end table fetched.end (Column fetched.column) row *ℤ pos 1
  pub values : (row : ℕ) → HaveValues table factors row → HasValue table (Column fetched.column) row
