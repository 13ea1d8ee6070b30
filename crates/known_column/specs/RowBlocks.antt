-- Blocks of 64 rows of what is known: of block b the rows from 64 * b on, or as many as are left.
use Rattle.std.specs.Prelude.{◌≡◌, ℕ, ◌+◌, ◌-◌, ◌*◌, ◌^◌, ◌<◌, ◌≤◌, min, cond, List, map, take}
use Rattle.std.specs.List.{All}
use Rattle.std.specs.Simd.Lanes.{zip2}
use Rattle.plane_kernels.specs.Rows.{bits_of}
use Rattle.daq_table.specs.declared.head.Ends.{Ends}
use Rattle.daq_table.specs.Tables.{planes as planes_of, width as width_of}
use Rattle.query_model.specs.Knowledge.{ColumnKnowledge, IsLegal, ranges_of}
use Rattle.known_column.specs.Columns.{KnownColumn, block_rows, rows_of_column}
use Rattle.known_column.specs.KnownTables.{KnownTable}

-- what is known of a block of a column
abbrev pub known_block : ℕ → ColumnKnowledge → ColumnKnowledge
known_block b known = record { read = known.read; prefixes = block_rows b known.prefixes }

abbrev pub block_of_column : KnownColumn → ℕ → KnownColumn
block_of_column column b = record { ends = column.ends; known = known_block b column.known }

-- a block of a table, as a table of at most 64 rows
abbrev pub block_of : KnownTable → ℕ → KnownTable
block_of table b = record {
  frame = record { rows = min 64 (table.frame.rows - 64 * b); columns = table.frame.columns };
  known = map (known_block b) table.known;
}

-- a row of a block has the ranges that it has in the table
abbrev pub BlocksHaveTheirRows : Type 0
BlocksHaveTheirRows =
    (table : KnownTable) (b r : ℕ) → r < 64 →
    ranges_of (block_of table b).frame (block_of table b).known r ≡ ranges_of table.frame table.known (64 * b + r)

-- what is known of a column is known of a table: there are few rows, and each prefix is that of some cell
pub record IsKnownColumn (column : KnownColumn) : Type 0 where
  pub some_read : column.known.read ≤ planes_of column.ends
  pub few_rows : rows_of_column column ≤ 16777216
  pub legal : All (IsLegal column.ends column.known.read) column.known.prefixes

-- the prefixes of rows out of the digits of their numbers, and of the bits of those that may have one: 0 where a row has none
abbrev pub joined_prefixes : ℕ → List ℕ → ℕ → List ℕ
joined_prefixes least numbers possible = zip2 (λ number bit. cond bit (least + number) 0) numbers (bits_of 64 possible)

-- what is known of so many rows with such prefixes
abbrev pub joined_column : Ends → ℕ → ℕ → List ℕ → KnownColumn
joined_column ends read rows prefixes = record { ends = ends; known = record { read = read; prefixes = take rows prefixes } }

-- what the block of a column keeps, of whose prefixes so many are those of rows
pub record IsKeptBlock (ends : Ends) (width read rows least : ℕ) (prefixes : List ℕ) : Type 0 where
  pub digits : width ≡ width_of ends
  pub few_digits : width ≤ 64
  pub some_read : read ≤ planes_of ends
  pub few_rows : rows ≤ 64
  pub few_codes : least ≤ 2 ^ 64
  pub legal : All (IsLegal ends read) (take rows prefixes)
