-- The cells of one column: which are null, which texts are values, and the numbers that they stand for.
use Rattle.std.specs.Prelude.{ℕ, ◌≤◌, ℤ, pos, Bool, true, false, not, if◌then◌else◌, Option}
use Rattle.std.specs.Prelude.{Some, None, List, [], ◌∷◌, ◌++◌, length, map, slice_index_or, IsUtf8}
use Rattle.std.specs.List.{filter}
use Rattle.daq_table.specs.CellTexts.{IsCellText, cell_number}
use Rattle.daq_table.specs.ColumnFacts.{is_text}
use Rattle.daq_table.specs.declared.head.Kind.{Kind}
use Rattle.daq_table.specs.declared.head.Kind.TheVariants.{Int, Dec, Date, Text}
use Rattle.daq_table.specs.declared.schema_column.SchemaColumn.{SchemaColumn}
use Rattle.daq_table.specs.Dictionaries.{distinct, rank_of}
pub use Rattle.daq_table.specs.Extremes.{greatest, least}
use Rattle.csv_load.specs.Records.{Fields}

-- the column's cells, row by row
abbrev pub column_texts : ℕ → List Fields → List (List ℕ)
column_texts c rows = map (λ (row : Fields). slice_index_or row c []) rows

-- whether a text is null: the empty one is where the column is nullable
abbrev pub is_null : Bool → List ℕ → Bool
is_null false text = false
is_null true [] = true
is_null true (byte ∷ text) = false

-- the texts that are not null
abbrev pub present : Bool → List (List ℕ) → List (List ℕ)
present nullable texts = filter (λ text. not (is_null nullable text)) texts

-- a text of UTF-8 and at most 255 bytes
pub record IsShortText (bytes : List ℕ) : Type 0 where
  pub utf8 : IsUtf8 bytes
  pub short : length bytes ≤ 255

-- the bytes are a value of the kind
abbrev pub IsValue : Kind → List ℕ → Type 0
IsValue Int bytes = IsCellText Int bytes
IsValue (Dec scale) bytes = IsCellText (Dec scale) bytes
IsValue Date bytes = IsCellText Date bytes
IsValue Text bytes = IsShortText bytes

-- the dictionary of a column with these texts, none of them null: only one of texts has names
abbrev pub dictionary : Kind → List (List ℕ) → List (List ℕ)
dictionary kind texts = if is_text kind then distinct texts else []

-- the dictionary of a column after these cells and one more that is not null
abbrev pub names_after : SchemaColumn → List (List ℕ) → List ℕ → List (List ℕ)
names_after column texts text = dictionary column.kind (present column.nullable texts ++ text ∷ [])

-- the number of a cell that is not null: a text's rank, and every other cell's value
abbrev pub number_in : Kind → List (List ℕ) → List ℕ → ℤ
number_in kind names text = if is_text kind then pos (rank_of names text) else cell_number kind text

-- the numbers of a column's cells, none of them null
abbrev pub numbers_of : Kind → List (List ℕ) → List ℤ
numbers_of kind texts = map (number_in kind (dictionary kind texts)) texts

-- what a cell stands for: null, or the number of its text
abbrev pub value_in : Bool → Kind → List (List ℕ) → List ℕ → Option ℤ
value_in nullable kind names text = if is_null nullable text then None else Some (number_in kind names text)

-- what a column's cells stand for, by the dictionary of those that are not null
abbrev pub values_of : Bool → Kind → List (List ℕ) → List (Option ℤ)
values_of nullable kind texts = map (value_in nullable kind (dictionary kind (present nullable texts))) texts
