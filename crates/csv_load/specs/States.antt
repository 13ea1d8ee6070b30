-- What is kept of a column while its CSV is read.
use Rattle.std.specs.Prelude.{◌≡◌, ◌≢◌, ℕ, zero, suc, ◌*◌, ◌<◌, ◌≤◌, ⊤, ℤ, pos}
use Rattle.std.specs.Prelude.{◌+ℤ◌, Bool, true, false, not, cond, All, IsTrue, IsFalse, if◌then◌else◌, Option}
use Rattle.std.specs.Prelude.{Some, None, List, [], ◌∷◌, ◌++◌, length, map, slice_get, slice_index_or}
use Rattle.std.specs.BTreeSet.{insert_key}
use Rattle.std.specs.Cmp.Lexicographic.{slice_cmp}
use Rattle.std.specs.List.{count_by, list_any}
use Rattle.std.specs.Ordering.{nat_cmp}
use Rattle.std.specs.Str.{bytes_eq}
use Rattle.daq_table.specs.Schemas.{columns_in, item_names, kept_places}
use Rattle.daq_table.specs.CellTexts.{cell_number}
use Rattle.daq_table.specs.Tables.{Cell, Cells, column_from, ends_of, value_of}
use Rattle.daq_table.specs.declared.head.ColumnHead.{ColumnHead}
use Rattle.daq_table.specs.declared.head.Kind.{Kind}
use Rattle.daq_table.specs.declared.head.Kind.TheVariants.{Int}
use Rattle.daq_table.specs.declared.schema_column.SchemaColumn.{SchemaColumn}
use Rattle.daq_table.specs.declared.schema_item.SchemaItem.{SchemaItem}
use Rattle.daq_table.specs.Dictionaries.{rank_of}
use Rattle.daq_table.specs.Extremes.{greatest, least}
use Rattle.daq_table.specs.ColumnFacts.{is_text}
use Rattle.csv_load.specs.Columns.{IsValue, column_texts, dictionary, is_null, present}
use Rattle.csv_load.specs.Lines.{EndsAt, record_at}
use Rattle.csv_load.specs.Kept.{AreFull, fields_at, kept_fields, kept_rows}
use Rattle.csv_load.specs.Records.{AreRecordsOf, Fields}
use Rattle.csv_load.specs.Faults.{IsFirstDifference}
use Rattle.csv_load.specs.Rows.{AreGoodRows}
use Rattle.csv_load.specs.declared.fault.TableFault.{TableFault}
use Rattle.csv_load.specs.declared.fault.TableFault.TheVariants.{NoHeader, HeaderDiffers, TooManyRows, TooManyCells}
use Rattle.csv_load.specs.declared.fault.TableFault.TheVariants.{UnequalLength, BadCell, TooManyNames, NoMemory}
use Rattle.csv_load.specs.declared.limits.Limits.{Limits}

-- of texts the values and their distinct names are kept, and of all else the numbers
pub record Kept : Type 0 where
  pub kind : Kind
  pub numbers : List ℤ
  pub texts : List (List ℕ)
  pub names : List (List ℕ)

-- what is kept of these values
abbrev pub kept_of : Kind → List (List ℕ) → Kept
kept_of kind texts = record {
  kind = kind;
  numbers = if is_text kind then [] else map (cell_number kind) texts;
  texts = if is_text kind then texts else [];
  names = dictionary kind texts;
}

-- the names with one more text's
abbrev pub names_with : Kind → List (List ℕ) → List ℕ → List (List ℕ)
names_with kind names text = if is_text kind then insert_key (slice_cmp nat_cmp) names text else []

-- what is kept after one more value
abbrev pub kept_with : Kept → List ℕ → Kept
kept_with k text = record {
  kind = k.kind;
  numbers = if is_text k.kind then k.numbers else k.numbers ++ cell_number k.kind text ∷ [];
  texts = if is_text k.kind then k.texts ++ text ∷ [] else k.texts;
  names = if is_text k.kind then insert_key (slice_cmp nat_cmp) k.names text else k.names;
}

-- the text may be the column's next value
pub record TakesValue (limit : ℕ) (k : Kept) (text : List ℕ) : Type 0 where
  pub value : IsValue k.kind text
  pub few : length (names_with k.kind k.names text) ≤ limit

pub record TakesNoName (limit : ℕ) (k : Kept) (text : List ℕ) : Type 0 where
  pub value : IsValue k.kind text
  pub many : limit < length (names_with k.kind k.names text)

-- why the text is not the next value, at that record and column
abbrev pub RefusesValue : ℕ → ℕ → ℕ → Kept → List ℕ → TableFault → Type 0
RefusesValue limit entry column k text NoHeader = ⊥
RefusesValue limit entry column k text (HeaderDiffers place) = ⊥
RefusesValue limit entry column k text (TooManyRows n) = ⊥
RefusesValue limit entry column k text (TooManyCells n) = ⊥
RefusesValue limit entry column k text (UnequalLength n got want) = ⊥
RefusesValue limit entry column k text (BadCell n place) = (n ≡ entry) × (place ≡ column) × ¬ IsValue k.kind text
RefusesValue limit entry column k text (TooManyNames place) = (place ≡ column) × TakesNoName limit k text
RefusesValue limit entry column k text NoMemory = ⊤

-- what is kept of a column: its values, and where it is nullable a mark for each cell that tells whether it is null
pub record State : Type 0 where
  pub nullable : Bool
  pub kept : Kept
  pub nulls : List Bool

-- the marks of these cells
abbrev pub marks_of : Bool → List (List ℕ) → List Bool
marks_of nullable texts = if nullable then map (is_null nullable) texts else []

-- the state after these cells
abbrev pub state_of : Kind → Bool → List (List ℕ) → State
state_of kind nullable texts = record { nullable = nullable; kept = kept_of kind (present nullable texts); nulls = marks_of nullable texts }

-- the state after one more cell
abbrev pub state_with : State → List ℕ → State
state_with s text = record {
  nullable = s.nullable;
  kept = if is_null s.nullable text then s.kept else kept_with s.kept text;
  nulls = if s.nullable then s.nulls ++ is_null s.nullable text ∷ [] else s.nulls;
}

-- the text may be the column's next cell
abbrev pub Takes : ℕ → State → List ℕ → Type 0
Takes limit s text = IsFalse (is_null s.nullable text) → TakesValue limit s.kept text

-- why the text is not the next cell, at that record and column
abbrev pub RefusesCell : ℕ → ℕ → ℕ → State → List ℕ → TableFault → Type 0
RefusesCell limit entry column s text NoHeader = ⊥
RefusesCell limit entry column s text (HeaderDiffers place) = ⊥
RefusesCell limit entry column s text (TooManyRows n) = ⊥
RefusesCell limit entry column s text (TooManyCells n) = ⊥
RefusesCell limit entry column s text (UnequalLength n got want) = ⊥
RefusesCell limit entry column s text (BadCell n place) =
    (n ≡ entry) × (place ≡ column) × IsFalse (is_null s.nullable text) × ¬ IsValue s.kept.kind text
RefusesCell limit entry column s text (TooManyNames place) =
    (place ≡ column) × IsFalse (is_null s.nullable text) × TakesNoName limit s.kept text
RefusesCell limit entry column s text NoMemory = ⊤

-- each state below that place has taken its field, and the others are as they were
pub record TookBelow (limit : ℕ) (old : List State) (fields : Fields) (new : List State) (end : ℕ) : Type 0 where
  pub wide : length new ≡ length old
  pub takes : (c : ℕ) (d : State) → c < end → Takes limit (slice_index_or old c d) (slice_index_or fields c [])
  pub took : (c : ℕ) (d : State) → c < end → slice_index_or new c d ≡ state_with (slice_index_or old c d) (slice_index_or fields c [])
  pub rest : (c : ℕ) (d : State) → end ≤ c → slice_index_or new c d ≡ slice_index_or old c d

-- each state has taken its field
abbrev pub TookAll : ℕ → List State → Fields → List State → Type 0
TookAll limit old fields new = TookBelow limit old fields new (length old)

-- of the fields at the places of the columns that of one column is refused, and those before it are taken; the fault names its
-- place among all fields
pub record RefusesAt (places : List ℕ) (limit entry : ℕ) (old : List State) (fields : Fields) (fault : TableFault) : Type 0 where
  pub place : ℕ
  pub within : place < length old
  pub before : (c : ℕ) (d : State) → c < place → Takes limit (slice_index_or old c d) (slice_index_or (fields_at places fields) c [])
  pub refused : (d : State)
      → RefusesCell limit entry (slice_index_or places place 0) (slice_index_or old place d)
      (slice_index_or (fields_at places fields) place []) fault

-- the columns' states after these rows
pub record AreStates (columns : List SchemaColumn) (rows : List Fields) (states : List State) : Type 0 where
  pub wide : length states ≡ length columns
  pub each : (c : ℕ) (column : SchemaColumn) (d : State) → slice_get columns c ≡ Some column
      → slice_index_or states c d ≡ state_of column.kind column.nullable (column_texts c rows)

-- one more row is within the limits of rows and of cells, of which there are so many columns
pub record HasRoomFor (limits : Limits) (rows columns : ℕ) : Type 0 where
  pub row : suc rows ≤ limits.rows
  pub cells : suc rows * columns ≤ limits.cells

-- the record is a row with a field for each item, and each column took its own
pub record TakesRow (items : List SchemaItem) (limits : Limits) (rows : ℕ) (old : List State) (fields : Fields) (new : List State)
    : Type 0 where
  pub room : HasRoomFor limits rows (length old)
  pub full : length fields ≡ length items
  pub took : TookAll limits.names old (kept_fields items fields) new

-- a row with a field for each item, and that of a column is refused
pub record RefusesField (items : List SchemaItem) (limits : Limits) (rows : ℕ) (old : List State) (fields : Fields)
    (fault : TableFault) : Type 0 where
  pub room : HasRoomFor limits rows (length old)
  pub full : length fields ≡ length items
  pub field : RefusesAt (kept_places items) limits.names (suc rows) old fields fault

pub record RefusesLength (items : List SchemaItem) (limits : Limits) (rows : ℕ) (old : List State) (fields : Fields)
    (entry got want : ℕ) : Type 0 where
  pub room : HasRoomFor limits rows (length old)
  pub entry_is : entry ≡ suc rows
  pub got_is : got ≡ length fields
  pub want_is : want ≡ length items
  pub differ : got ≢ want

-- why the record is no row after so many; memory is wanted only once it fits the limits and has all fields
abbrev pub RefusesRow : List SchemaItem → Limits → ℕ → List State → Fields → TableFault → Type 0
RefusesRow items limits rows old fields NoHeader = ⊥
RefusesRow items limits rows old fields (HeaderDiffers place) = ⊥
RefusesRow items limits rows old fields (TooManyRows limit) = (limit ≡ limits.rows) × (limits.rows < suc rows)
RefusesRow items limits rows old fields (TooManyCells count) =
    (suc rows ≤ limits.rows) × (count ≡ suc rows * length old) × (limits.cells < count)
RefusesRow items limits rows old fields (UnequalLength entry got want) = RefusesLength items limits rows old fields entry got want
RefusesRow items limits rows old fields (BadCell entry place) = RefusesField items limits rows old fields (BadCell entry place)
RefusesRow items limits rows old fields (TooManyNames place) = RefusesField items limits rows old fields (TooManyNames place)
RefusesRow items limits rows old fields NoMemory = RefusesField items limits rows old fields NoMemory

-- the first record is the header, and each further one a row
abbrev pub TakesRecord : List SchemaItem → Limits → ℕ → List State → Fields → List State → Type 0
TakesRecord items limits zero old fields new = (fields ≡ item_names items) × (new ≡ old)
TakesRecord items limits (suc rows) old fields new = TakesRow items limits rows old fields new

-- why the record is no header; to know it takes no memory
abbrev pub RefusesHeader : List SchemaItem → Fields → TableFault → Type 0
RefusesHeader items fields NoHeader = ⊥
RefusesHeader items fields (HeaderDiffers place) = IsFirstDifference fields (item_names items) place
RefusesHeader items fields (TooManyRows limit) = ⊥
RefusesHeader items fields (TooManyCells count) = ⊥
RefusesHeader items fields (UnequalLength entry got want) = ⊥
RefusesHeader items fields (BadCell entry place) = ⊥
RefusesHeader items fields (TooManyNames place) = ⊥
RefusesHeader items fields NoMemory = ⊥

abbrev pub RefusesRecord : List SchemaItem → Limits → ℕ → List State → Fields → TableFault → Type 0
RefusesRecord items limits zero old fields fault = RefusesHeader items fields fault
RefusesRecord items limits (suc rows) old fields fault = RefusesRow items limits rows old fields fault

-- the next record of a text from a place on is taken after so many, and ends before another place
pub record TakesNext (items : List SchemaItem) (limits : Limits) (records : ℕ) (text : List ℕ) (from : ℕ) (old : List State)
    (next : ℕ) (new : List State) : Type 0 where
  pub fields : Fields
  pub ends : EndsAt text from fields next
  pub takes : TakesRecord items limits records old fields new

-- there is no next record, and the states stay, or it is taken
abbrev pub TakesSome : List SchemaItem → Limits → ℕ → List ℕ → ℕ → List State → List State → Option ℕ → Type 0
TakesSome items limits records text from old new None = (record_at text from ≡ None) × (new ≡ old)
TakesSome items limits records text from old new (Some next) = TakesNext items limits records text from old next new

-- the next record of a text from a place on is refused after so many
pub record RefusesNext (items : List SchemaItem) (limits : Limits) (records : ℕ) (text : List ℕ) (from : ℕ) (old : List State)
    (fault : TableFault) : Type 0 where
  pub fields : Fields
  pub next : ℕ
  pub ends : EndsAt text from fields next
  pub refuses : RefusesRecord items limits records old fields fault

-- after a header, the rows are good and the states are theirs
pub record HasRows (items : List SchemaItem) (limits : Limits) (header : Fields) (rows : List Fields) (states : List State)
    : Type 0 where
  pub header_is : header ≡ item_names items
  pub full : AreFull items rows
  pub good : AreGoodRows (columns_in items) limits (kept_rows items rows)
  pub states_are : AreStates (columns_in items) (kept_rows items rows) states

-- the states after these records, each of which was taken
abbrev pub HasTaken : List SchemaItem → Limits → List Fields → List State → Type 0
HasTaken items limits [] states = AreStates (columns_in items) [] states
HasTaken items limits (header ∷ rows) states = HasRows items limits header rows states

-- the text was read to its end: its rows, and the columns' states after them
pub record HasRead (bytes : List ℕ) (items : List SchemaItem) (limits : Limits) (count : ℕ) (states : List State) : Type 0 where
  pub rows : List Fields
  pub records : AreRecordsOf bytes (item_names items ∷ rows)
  pub full : AreFull items rows
  pub good : AreGoodRows (columns_in items) limits (kept_rows items rows)
  pub count_is : count ≡ length rows
  pub states_are : AreStates (columns_in items) (kept_rows items rows) states

-- the numbers of the values that are kept
abbrev pub numbers_in : Kept → List ℤ
numbers_in k = if is_text k.kind then map (λ text. pos (rank_of k.names text)) k.texts else k.numbers

-- each text is among the names, which only a column of texts has
pub record IsComplete (k : Kept) : Type 0 where
  pub known : All (λ text. IsTrue (list_any (bytes_eq text) k.names)) k.texts
  pub plain : is_text k.kind ≡ false → k.names ≡ []

-- the numbers in turn at the places that are not marked, and 0 at the others
abbrev pub filled : List Bool → List ℕ → List ℕ
filled [] numbers = []
filled (true ∷ marks) numbers = 0 ∷ filled marks numbers
filled (false ∷ marks) [] = []
filled (false ∷ marks) (n ∷ numbers) = n ∷ filled marks numbers

-- the same as values, with null at the places that are marked
abbrev pub laid : List Bool → List ℤ → List (Option ℤ)
laid [] numbers = []
laid (true ∷ marks) numbers = None ∷ laid marks numbers
laid (false ∷ marks) [] = []
laid (false ∷ marks) (z ∷ numbers) = Some z ∷ laid marks numbers

-- what the cells of a column stand for
abbrev pub values_in : State → List (Option ℤ)
values_in s = if s.nullable then laid s.nulls (numbers_in s.kept) else map Some (numbers_in s.kept)

-- what is kept is complete, and a nullable column has a value for each cell that is not marked, and another no marks
pub record IsWhole (s : State) : Type 0 where
  pub complete : IsComplete s.kept
  pub marked : IsTrue s.nullable → count_by not s.nulls ≡ length (numbers_in s.kept)
  pub plain : IsFalse s.nullable → s.nulls ≡ []

-- the head of a column with these values, whose numbers above the base these are
pub record HasValues (k : Kept) (nullable : Bool) (name : List ℕ) (head : ColumnHead) (numbers : List ℕ) : Type 0 where
  pub name_is : head.name ≡ name
  pub kind : head.kind ≡ k.kind
  pub nullable_is : head.nullable ≡ nullable
  pub names : head.names ≡ k.names
  pub base : head.base ≡ least (numbers_in k)
  pub top : head.top ≡ greatest (numbers_in k)
  pub numbers_are : map (λ u. head.base +ℤ pos u) numbers ≡ numbers_in k

-- the head and the cells that a state stands for
pub record IsStored (s : State) (name : List ℕ) (head : ColumnHead) (cells : List Cell) : Type 0 where
  pub name_is : head.name ≡ name
  pub kind : head.kind ≡ s.kept.kind
  pub nullable : head.nullable ≡ s.nullable
  pub names : head.names ≡ s.kept.names
  pub base : head.base ≡ least (numbers_in s.kept)
  pub top : head.top ≡ greatest (numbers_in s.kept)
  pub cells_are : map (value_of (ends_of head)) cells ≡ values_in s

-- the same of the numbers and the marks of the cells; the number of a null cell is 0
pub record IsFinished (s : State) (name : List ℕ) (head : ColumnHead) (numbers : List ℕ) (nulls : List Bool) : Type 0 where
  pub stored : IsStored s name head (column_from numbers nulls)
  pub nulls_are : nulls ≡ s.nulls
  pub zero : (r : ℕ) → IsTrue (slice_index_or nulls r false) → slice_index_or numbers r 0 ≡ 0

-- what is left of a column that is finished: one of integers, without cells
abbrev pub emptied : State → State
emptied s = state_of Int s.nullable []

-- the first of the declared columns, up to that place, are finished
pub record AreFinished (columns : List SchemaColumn) (states : List State) (end : ℕ) (heads : List ColumnHead)
    (lists : List (List ℕ)) (marks : List (List Bool)) : Type 0 where
  pub heads_count : length heads ≡ end
  pub lists_count : length lists ≡ end
  pub marks_count : length marks ≡ end
  pub each : (c : ℕ) (column : SchemaColumn) (d : State) (head : ColumnHead)
      → slice_get columns c ≡ Some column → slice_get heads c ≡ Some head
      → IsFinished (slice_index_or states c d) column.name head (slice_index_or lists c []) (slice_index_or marks c [])

-- the columns are stored
pub record AreStored (columns : List SchemaColumn) (states : List State) (heads : List ColumnHead) (cells : Cells) : Type 0 where
  pub heads_count : length heads ≡ length states
  pub cells_count : length cells ≡ length states
  pub each : (c : ℕ) (column : SchemaColumn) (d : State) (head : ColumnHead)
      → slice_get columns c ≡ Some column → slice_get heads c ≡ Some head
      → IsStored (slice_index_or states c d) column.name head (slice_index_or cells c [])

-- each of the states is whole, after so many cells
pub record AreComplete (rows : ℕ) (states : List State) : Type 0 where
  pub whole : (c : ℕ) (d : State) → c < length states → IsWhole (slice_index_or states c d)
  pub count : (c : ℕ) (d : State) → c < length states → length (values_in (slice_index_or states c d)) ≡ rows
  pub marks : (c : ℕ) (d : State) → c < length states
      → length (slice_index_or states c d).nulls ≡ cond (slice_index_or states c d).nullable rows 0
