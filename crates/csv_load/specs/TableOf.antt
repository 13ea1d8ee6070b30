-- The table that a CSV stands for.
use Rattle.std.specs.Prelude.{◌≡◌, ℕ, List, ◌∷◌, length, map, Some, slice_get}
use Rattle.daq_table.specs.Schemas.{columns_in, item_names}
use Rattle.daq_table.specs.Tables.{Cell, Contents, ends_of, value_of}
use Rattle.daq_table.specs.declared.head.ColumnHead.{ColumnHead}
use Rattle.daq_table.specs.declared.schema_column.SchemaColumn.{SchemaColumn}
use Rattle.daq_table.specs.declared.schema_item.SchemaItem.{SchemaItem}
use Rattle.daq_table.specs.Extremes.{greatest, least}
use Rattle.csv_load.specs.Columns.{column_texts, dictionary, numbers_of, present, values_of}
use Rattle.csv_load.specs.Kept.{AreFull, kept_rows}
use Rattle.csv_load.specs.Records.{AreRecordsOf, Fields}
use Rattle.csv_load.specs.Rows.{AreGoodRows}
use Rattle.csv_load.specs.declared.limits.Limits.{Limits}

-- the column of these texts: its name, its kind and whether it is nullable are declared; of the texts that are not null the
-- dictionary has the distinct names sorted by bytes, and base and top are the least and the greatest number; each cell is null
-- where its text is, and else stands for its text's number
pub record IsColumnOf (column : SchemaColumn) (texts : List (List ℕ)) (head : ColumnHead) (cells : List Cell) : Type 0 where
  pub name : head.name ≡ column.name
  pub kind : head.kind ≡ column.kind
  pub nullable : head.nullable ≡ column.nullable
  pub names : head.names ≡ dictionary column.kind (present column.nullable texts)
  pub base : head.base ≡ least (numbers_of column.kind (present column.nullable texts))
  pub top : head.top ≡ greatest (numbers_of column.kind (present column.nullable texts))
  pub cells_are : map (value_of (ends_of head)) cells ≡ values_of column.nullable column.kind texts

-- the first record is the names of the schema's items, each further one has a field for each of them, its kept fields are a good
-- row, and the table has a column for each declared one; of skipped fields nothing is asked and nothing is made
pub record IsTableOf (bytes : List ℕ) (items : List SchemaItem) (limits : Limits) (table : Contents) : Type 0 where
  pub rows : List Fields
  pub records : AreRecordsOf bytes (item_names items ∷ rows)
  pub full : AreFull items rows
  pub good : AreGoodRows (columns_in items) limits (kept_rows items rows)
  pub count : table.head.rows ≡ length rows
  pub heads : length table.head.columns ≡ length (columns_in items)
  pub lists : length table.cells ≡ length (columns_in items)
  pub each : (c : ℕ) (column : SchemaColumn) (head : ColumnHead) (cells : List Cell)
      → slice_get (columns_in items) c ≡ Some column → slice_get table.head.columns c ≡ Some head → slice_get table.cells c ≡ Some cells
      → IsColumnOf column (column_texts c (kept_rows items rows)) head cells
