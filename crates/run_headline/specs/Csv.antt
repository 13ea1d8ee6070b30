-- Which table the bytes of a CSV stand for, whatever the limits within which it is taken.
use Rattle.std.specs.Prelude.{◌≡◌, ℕ, IsFalse, List, ◌∷◌, length, slice_get}
use Rattle.std.specs.List.{AllByRecursion}
use Rattle.std.specs.declared.option.Option.TheVariants.{Some}
use Rattle.csv_load.specs.Columns.{IsValue, column_texts, is_null}
use Rattle.csv_load.specs.Kept.{AreFull, kept_rows}
use Rattle.csv_load.specs.Records.{AreRecordsOf, Fields}
use Rattle.csv_load.specs.TableOf.{IsColumnOf}
use Rattle.daq_table.specs.Schemas.{columns_in, item_names}
use Rattle.daq_table.specs.Tables.{Cell, Contents}
use Rattle.daq_table.specs.declared.head.ColumnHead.{ColumnHead}
use Rattle.daq_table.specs.declared.schema_column.SchemaColumn.{SchemaColumn}
use Rattle.daq_table.specs.declared.schema_item.SchemaItem.{SchemaItem}

-- each text of the column that is not null is a value of its kind
abbrev pub AreValues : SchemaColumn → List (List ℕ) → Type 0
AreValues column texts = AllByRecursion (λ text. IsFalse (is_null column.nullable text) → IsValue column.kind text) texts

-- the first record has the names of the items, and each further one a field for each of them; of the fields that are not skipped, which are
-- values, the columns of the table are made
pub record StandsFor (items : List SchemaItem) (bytes : List ℕ) (table : Contents) : Type 0 where
  pub rows : List Fields
  pub records : AreRecordsOf bytes (item_names items ∷ rows)
  pub full : AreFull items rows
  pub count : table.head.rows ≡ length rows
  pub heads : length table.head.columns ≡ length (columns_in items)
  pub lists : length table.cells ≡ length (columns_in items)
  pub each : (c : ℕ) (column : SchemaColumn) (head : ColumnHead) (cells : List Cell) → slice_get (columns_in items) c ≡ Some column →
      slice_get table.head.columns c ≡ Some head → slice_get table.cells c ≡ Some cells →
      let texts = column_texts c (kept_rows items rows) in AreValues column texts × IsColumnOf column texts head cells
