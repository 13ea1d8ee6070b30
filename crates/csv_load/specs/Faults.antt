-- What each fault says of a CSV: it is the first in the order of the records, and of the cells of one.
use Rattle.std.specs.Prelude.{◌≡◌, ◌≢◌, ℕ, suc, ◌*◌, ◌<◌, ◌≤◌, ⊤, List, []}
use Rattle.std.specs.Prelude.{◌∷◌, ◌++◌, length, take, Some, slice_get, slice_index_or, IsFalse}
use Rattle.daq_table.specs.Schemas.{columns_in, item_names}
use Rattle.daq_table.specs.declared.schema_column.SchemaColumn.{SchemaColumn}
use Rattle.daq_table.specs.declared.schema_item.SchemaItem.{SchemaItem}
use Rattle.csv_load.specs.Columns.{IsValue, column_texts, is_null, names_after}
use Rattle.csv_load.specs.Kept.{AreFull, kept_fields, kept_rows, place_of}
use Rattle.csv_load.specs.Records.{AreRecordsOf, Begins, Fields}
use Rattle.csv_load.specs.Rows.{AreGoodBefore, AreGoodRows, HasRoom}
use Rattle.csv_load.specs.declared.fault.TableFault.{TableFault}
use Rattle.csv_load.specs.declared.fault.TableFault.TheVariants.{NoHeader, HeaderDiffers, TooManyRows, TooManyCells}
use Rattle.csv_load.specs.declared.fault.TableFault.TheVariants.{UnequalLength, BadCell, TooManyNames, NoMemory}
use Rattle.csv_load.specs.declared.limits.Limits.{Limits}

-- the first place where the lists differ; one that has ended differs from one that goes on
pub record IsFirstDifference (header names : List (List ℕ)) (place : ℕ) : Type 0 where
  pub same : take place header ≡ take place names
  pub differ : slice_get header place ≢ slice_get names place

-- the first record is a header, and differs from the names of the schema's items first at that place
pub record HasOtherHeader (bytes : List ℕ) (items : List SchemaItem) (column : ℕ) : Type 0 where
  pub header : Fields
  pub begins : Begins bytes (header ∷ [])
  pub place : IsFirstDifference header (item_names items) column

-- a row past the limit of rows
pub record PassesRows (limits : Limits) (rows : List Fields) (limit : ℕ) : Type 0 where
  pub limit_is : limit ≡ limits.rows
  pub many : limits.rows < suc (length rows)

-- a row past the limit of cells
pub record PassesCells (columns : List SchemaColumn) (limits : Limits) (rows : List Fields) (count : ℕ) : Type 0 where
  pub row : suc (length rows) ≤ limits.rows
  pub count_is : count ≡ suc (length rows) * length columns
  pub many : limits.cells < count

-- a row with another number of fields than the schema has items
pub record HasOtherLength (items : List SchemaItem) (limits : Limits) (rows : List Fields) (next : Fields)
    (entry got want : ℕ) : Type 0 where
  pub room : HasRoom (columns_in items) limits rows
  pub entry_is : entry ≡ suc (length rows)
  pub got_is : got ≡ length next
  pub want_is : want ≡ length items
  pub differ : got ≢ want

-- a row whose cells before that column are good
pub record ReachesCell (columns : List SchemaColumn) (limits : Limits) (rows : List Fields) (next : Fields) (place : ℕ) : Type 0 where
  pub room : HasRoom columns limits rows
  pub full : length next ≡ length columns
  pub before : AreGoodBefore columns limits rows next place
  pub column : SchemaColumn
  pub column_is : slice_get columns place ≡ Some column

-- the cell is not null, and no value of its kind
pub record HasBadCell (columns : List SchemaColumn) (limits : Limits) (rows : List Fields) (next : Fields) (entry place : ℕ) : Type 0 where
  pub reached : ReachesCell columns limits rows next place
  pub entry_is : entry ≡ suc (length rows)
  pub given : IsFalse (is_null reached.column.nullable (slice_index_or next place []))
  pub bad : ¬ IsValue reached.column.kind (slice_index_or next place [])

-- the cell is not null and a value, and brings a name past the limit of names
pub record PassesNames (columns : List SchemaColumn) (limits : Limits) (rows : List Fields) (next : Fields) (place : ℕ) : Type 0 where
  pub reached : ReachesCell columns limits rows next place
  pub given : IsFalse (is_null reached.column.nullable (slice_index_or next place []))
  pub value : IsValue reached.column.kind (slice_index_or next place [])
  pub many : limits.names < length (names_after reached.column (column_texts place rows) (slice_index_or next place []))

-- a row with a field for each item, of whose kept fields one is such a cell; the fault names its place among all fields
pub record HasBadField (items : List SchemaItem) (limits : Limits) (rows : List Fields) (next : Fields) (entry place : ℕ) : Type 0 where
  pub full : length next ≡ length items
  pub column : ℕ
  pub place_is : place ≡ place_of items column
  pub bad : HasBadCell (columns_in items) limits (kept_rows items rows) (kept_fields items next) entry column

-- the same of a cell that brings a name past the limit
pub record PassesFieldNames (items : List SchemaItem) (limits : Limits) (rows : List Fields) (next : Fields) (place : ℕ)
    : Type 0 where
  pub full : length next ≡ length items
  pub column : ℕ
  pub place_is : place ≡ place_of items column
  pub passed : PassesNames (columns_in items) limits (kept_rows items rows) (kept_fields items next) column

-- what the record after these rows shows
abbrev pub ShowsFault : List SchemaItem → Limits → List Fields → Fields → TableFault → Type 0
ShowsFault items limits rows next NoHeader = ⊥
ShowsFault items limits rows next (HeaderDiffers column) = ⊥
ShowsFault items limits rows next (TooManyRows limit) = PassesRows limits rows limit
ShowsFault items limits rows next (TooManyCells count) = PassesCells (columns_in items) limits rows count
ShowsFault items limits rows next (UnequalLength entry got want) = HasOtherLength items limits rows next entry got want
ShowsFault items limits rows next (BadCell entry column) = HasBadField items limits rows next entry column
ShowsFault items limits rows next (TooManyNames column) = PassesFieldNames items limits rows next column
ShowsFault items limits rows next NoMemory = ⊥

-- the header is the names of the schema's items, the rows after it are good, and the record after them shows the fault
pub record HasFaultyRow (bytes : List ℕ) (items : List SchemaItem) (limits : Limits) (fault : TableFault) : Type 0 where
  pub rows : List Fields
  pub next : Fields
  pub begins : Begins bytes (item_names items ∷ (rows ++ next ∷ []))
  pub full : AreFull items rows
  pub good : AreGoodRows (columns_in items) limits (kept_rows items rows)
  pub shows : ShowsFault items limits rows next fault

-- what a fault says of a CSV; want of memory says nothing
abbrev pub Refuses : List ℕ → List SchemaItem → Limits → TableFault → Type 0
Refuses bytes items limits NoHeader = AreRecordsOf bytes []
Refuses bytes items limits (HeaderDiffers column) = HasOtherHeader bytes items column
Refuses bytes items limits (TooManyRows limit) = HasFaultyRow bytes items limits (TooManyRows limit)
Refuses bytes items limits (TooManyCells count) = HasFaultyRow bytes items limits (TooManyCells count)
Refuses bytes items limits (UnequalLength entry got want) = HasFaultyRow bytes items limits (UnequalLength entry got want)
Refuses bytes items limits (BadCell entry column) = HasFaultyRow bytes items limits (BadCell entry column)
Refuses bytes items limits (TooManyNames column) = HasFaultyRow bytes items limits (TooManyNames column)
Refuses bytes items limits NoMemory = ⊤
