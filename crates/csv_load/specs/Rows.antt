-- Which rows of a CSV are taken.
use Rattle.std.specs.Prelude.{◌≡◌, ℕ, suc, ◌*◌, ◌<◌, ◌≤◌, List}
use Rattle.std.specs.Prelude.{[], length, take, Some, slice_get, slice_index_or, IsFalse}
use Rattle.daq_table.specs.declared.schema_column.SchemaColumn.{SchemaColumn}
use Rattle.csv_load.specs.Columns.{IsValue, column_texts, is_null, names_after}
use Rattle.csv_load.specs.Records.{Fields}
use Rattle.csv_load.specs.declared.limits.Limits.{Limits}

-- one more row is within the limits of rows and of cells
pub record HasRoom (columns : List SchemaColumn) (limits : Limits) (rows : List Fields) : Type 0 where
  pub row : suc (length rows) ≤ limits.rows
  pub cells : suc (length rows) * length columns ≤ limits.cells

-- after these cells of its column, the text is a value, and leaves no more names than the limit
pub record IsGoodValue (column : SchemaColumn) (limit : ℕ) (earlier : List (List ℕ)) (text : List ℕ) : Type 0 where
  pub value : IsValue column.kind text
  pub few : length (names_after column earlier text) ≤ limit

-- after these cells of its column, the text is null or a good value
abbrev pub IsGoodCell : SchemaColumn → ℕ → List (List ℕ) → List ℕ → Type 0
IsGoodCell column limit earlier text = IsFalse (is_null column.nullable text) → IsGoodValue column limit earlier text

-- after these rows, the cells before that column are good
abbrev pub AreGoodBefore : List SchemaColumn → Limits → List Fields → Fields → ℕ → Type 0
AreGoodBefore columns limits rows next end =
    (c : ℕ) (column : SchemaColumn) → c < end → slice_get columns c ≡ Some column
    → IsGoodCell column limits.names (column_texts c rows) (slice_index_or next c [])

-- after these rows, the record is one more
pub record IsGoodRow (columns : List SchemaColumn) (limits : Limits) (rows : List Fields) (next : Fields) : Type 0 where
  pub room : HasRoom columns limits rows
  pub full : length next ≡ length columns
  pub cells : AreGoodBefore columns limits rows next (length columns)

-- each row is good after those before it
abbrev pub AreGoodRows : List SchemaColumn → Limits → List Fields → Type 0
AreGoodRows columns limits rows = (r : ℕ) → r < length rows → IsGoodRow columns limits (take r rows) (slice_index_or rows r [])
