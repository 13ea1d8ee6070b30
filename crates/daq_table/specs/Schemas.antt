-- The text of a schema: items parted by `,`, each a name, `:` and a kind, with `?` behind it where the column is nullable, or
-- `skip` where no column is made of the field.
use Rattle.std.specs.Prelude.{◌≡◌, ℕ, ◌+◌, ◌-◌, ◌<◌, ◌≤◌, ◌==◌, nat_eq, nat_le}
use Rattle.std.specs.Prelude.{suc, Bool, true, not, ◌&&◌, if◌then◌else◌, IsTrue, Option, Some, None}
use Rattle.std.specs.Prelude.{is_some, option_map, List, [], ◌∷◌, length, map, take, codes, slice_get, slice_index}
use Rattle.std.specs.Char.{is_ascii_digit}
use Rattle.std.specs.List.{after_first, before_first, ends_with, filter_map, list_all, slice_split, starts_with}
use Rattle.std.specs.Str.{bytes_eq}
use Rattle.daq_table.specs.HeadFacts.{all_differ}
use Rattle.daq_table.specs.declared.head.Kind.{Kind}
use Rattle.daq_table.specs.declared.head.Kind.TheVariants.{Int, Dec, Date, Text}
use Rattle.daq_table.specs.declared.schema_column.SchemaColumn.{SchemaColumn}
use Rattle.daq_table.specs.declared.schema_item.SchemaItem.{SchemaItem}
use Rattle.daq_table.specs.declared.schema_item.SchemaItem.TheVariants.{Column, Skip}

-- a byte of a name: from 0x20 to 0x7E, and none of `,` `:` `"`
abbrev pub is_name_byte : ℕ → Bool
is_name_byte c = nat_le 32 c && nat_le c 126 && not (c == 44) && not (c == 58) && not (c == 34)

-- a name: from 1 to 64 such bytes
abbrev pub is_schema_name : List ℕ → Bool
is_schema_name name = nat_le 1 (length name) && nat_le (length name) 64 && list_all is_name_byte name

-- `dec` and one digit
abbrev pub is_dec_word : List ℕ → Bool
is_dec_word word = (length word == 4) && starts_with nat_eq word (codes "dec") && is_ascii_digit (slice_index word 3)

-- the kind that a word names
abbrev pub kind_of : List ℕ → Option Kind
kind_of word =
    if bytes_eq word (codes "int") then Some Int
    else (if bytes_eq word (codes "date") then Some Date
    else (if bytes_eq word (codes "text") then Some Text
    else (if is_dec_word word then Some (Dec (slice_index word 3 - 48)) else None)))

-- a word with `?` at its end declares a nullable column
abbrev pub is_nullable_word : List ℕ → Bool
is_nullable_word word = ends_with nat_eq word (codes "?")

-- what stands before that `?`
abbrev pub kind_word : List ℕ → List ℕ
kind_word word = if is_nullable_word word then take (length word - 1) word else word

abbrev pub column_named : List ℕ → Option Kind → Bool → Option SchemaColumn
column_named name None nullable = None
column_named name (Some kind) nullable =
    if is_schema_name name then Some (record { name = name; kind = kind; nullable = nullable }) else None

-- the column that a name and the word behind it declare
abbrev pub column_worded : List ℕ → List ℕ → Option SchemaColumn
column_worded name word = column_named name (kind_of (kind_word word)) (is_nullable_word word)

-- the column that an item declares, if it has the form of one
abbrev pub column_of : List ℕ → Option SchemaColumn
column_of item = column_worded (before_first (λ c. c == 58) item) (after_first (λ c. c == 58) item)

-- a field of that name that is skipped
abbrev pub skip_named : List ℕ → Option SchemaItem
skip_named name = if is_schema_name name then Some (Skip name) else None

-- what a name and the word behind it declare
abbrev pub item_worded : List ℕ → List ℕ → Option SchemaItem
item_worded name word = if bytes_eq word (codes "skip") then skip_named name else option_map Column (column_worded name word)

-- what an item declares, if it has the form of one
abbrev pub item_of : List ℕ → Option SchemaItem
item_of item = item_worded (before_first (λ c. c == 58) item) (after_first (λ c. c == 58) item)

-- the items of a schema, in order
abbrev pub items_of : List ℕ → List (List ℕ)
items_of text = slice_split (λ c. c == 44) text

-- the place of the first item that has not the form of one, where the first of the items stands at that place
abbrev pub bad_place : ℕ → List (List ℕ) → Option ℕ
bad_place at [] = None
bad_place at (item ∷ items) = if is_some (item_of item) then bad_place (at + length item + 1) items else Some at

-- the columns that the items declare
abbrev pub columns_of : List (List ℕ) → List SchemaColumn
columns_of items = filter_map column_of items

-- what the items declare, columns and skipped fields
abbrev pub declared_of : List (List ℕ) → List SchemaItem
declared_of items = filter_map item_of items

abbrev pub column_in : SchemaItem → Option SchemaColumn
column_in (Column column) = Some column
column_in (Skip name) = None

-- the columns among the items
abbrev pub columns_in : List SchemaItem → List SchemaColumn
columns_in items = filter_map column_in items

abbrev pub item_name : SchemaItem → List ℕ
item_name (Column column) = column.name
item_name (Skip name) = name

abbrev pub item_names : List SchemaItem → List (List ℕ)
item_names items = map item_name items

abbrev pub names_of : List SchemaColumn → List (List ℕ)
names_of columns = map (λ c. c.name) columns

-- the places of the columns among the items, the first of which stands at that place
abbrev pub kept_from : ℕ → List SchemaItem → List ℕ
kept_from at [] = []
kept_from at (Column column ∷ items) = at ∷ kept_from (suc at) items
kept_from at (Skip name ∷ items) = kept_from (suc at) items

abbrev pub kept_places : List SchemaItem → List ℕ
kept_places items = kept_from 0 items

-- each item has the form of one, and these are what they declare
pub record AreItemsOf (text : List ℕ) (items : List SchemaItem) : Type 0 where
  pub good : bad_place 0 (items_of text) ≡ None
  pub items_are : items ≡ declared_of (items_of text)

-- each item has the form of one, and these are what they declare: from 1 to 64 columns, at most 1,024 items with those that are
-- skipped, and all names differ
pub record DeclaresItems (text : List ℕ) (items : List SchemaItem) : Type 0 where
  pub all : AreItemsOf text items
  pub few : length (columns_in items) ≤ 64
  pub wide : length items ≤ 1024
  pub some : 1 ≤ length (columns_in items)
  pub differ : IsTrue (all_differ (item_names items))

-- the columns among what the text declares
pub record Declares (text : List ℕ) (columns : List SchemaColumn) : Type 0 where
  pub items : List SchemaItem
  pub declared : DeclaresItems text items
  pub columns_are : columns ≡ columns_in items

-- the names before the second differ, and it repeats the first
pub record IsFirstRepeat (names : List (List ℕ)) (first second : ℕ) : Type 0 where
  pub within : second < length names
  pub before : first < second
  pub same : slice_get names first ≡ slice_get names second
  pub differ : IsTrue (all_differ (take second names))

-- a decimal has at most nine places
abbrev pub fits_scale : Kind → Bool
fits_scale Int = true
fits_scale (Dec scale) = nat_le scale 9
fits_scale Date = true
fits_scale Text = true

abbrev pub fit_scales : List SchemaColumn → Bool
fit_scales columns = list_all (λ c. fits_scale c.kind) columns
