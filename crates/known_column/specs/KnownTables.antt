-- What several columns of a table are known by: what is declared of them, and what was read of them.
use Rattle.std.specs.Prelude.{ℕ, ◌≤◌, ◌<◌, Bool, List, length, map, slice_index, All, IfSome}
use Rattle.std.specs.declared.option.Option.{Option}
use Rattle.std.specs.declared.option.Option.TheVariants.{Some, None}
use Rattle.daq_table.specs.Tables.{Frame, ends_at}
use Rattle.query_model.specs.Knowledge.{IsKnowledge, Knowledge, known_at, start, taken}
use Rattle.known_column.specs.Columns.{KnownColumn, unread_column}

-- the columns are numbered in their order
pub record KnownTable : Type 0 where
  pub frame : Frame
  pub known : Knowledge

-- these columns, each of which has so many rows
abbrev pub table_of : ℕ → List KnownColumn → KnownTable
table_of rows columns = record {
  frame = record { rows = rows; columns = map (λ column. column.ends) columns };
  known = map (λ column. column.known) columns;
}

-- a column of them
abbrev pub column_at : KnownTable → ℕ → KnownColumn
column_at table c = record { ends = ends_at table.frame c; known = known_at table.known c }

-- what is declared of the columns at these places of a table
abbrev pub frame_at : Frame → List ℕ → Frame
frame_at frame places = record { rows = frame.rows; columns = map (ends_at frame) places }

-- the columns at these places, of which nothing is read
abbrev pub unread_columns : Frame → List ℕ → List KnownColumn
unread_columns frame places = map (λ place. unread_column (ends_at frame place) frame.rows) places

-- nothing is read of columns of which this is declared
abbrev pub unread_table : Frame → KnownTable
unread_table frame = record { frame = frame; known = start frame }

-- after the next plane of a column, with these bits
abbrev pub read_column : KnownTable → ℕ → List Bool → KnownTable
read_column table c bits = record { frame = table.frame; known = taken table.known c bits }

-- the columns with these numbers, lent in the order of the list
abbrev pub lent_table : KnownTable → List ℕ → KnownTable
lent_table table numbers = record { frame = frame_at table.frame numbers; known = map (known_at table.known) numbers }

-- the same, or all columns where no numbers are given
abbrev pub lent_of : KnownTable → Option (List ℕ) → KnownTable
lent_of table None = table
lent_of table (Some numbers) = lent_table table numbers

-- each number is that of a column
abbrev pub AreNumbers : KnownTable → Option (List ℕ) → Type 0
AreNumbers table numbers = IfSome numbers (All (λ number. number < length table.frame.columns))

-- the number of a lent column
abbrev pub number_of : Option (List ℕ) → ℕ → ℕ
number_of None c = c
number_of (Some numbers) c = slice_index numbers c

-- what known columns keep: there are few rows, and for each row of each column a prefix that some cell has
pub record IsKnownTable (table : KnownTable) : Type 0 where
  pub few_rows : table.frame.rows ≤ 16777216
  pub knowledge : IsKnowledge table.frame table.known
