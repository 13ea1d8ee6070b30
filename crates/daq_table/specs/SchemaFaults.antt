-- What each fault says of the text of a schema.
use Rattle.std.specs.Prelude.{◌≡◌, ℕ, ◌<◌, ◌≤◌, ⊤, Some, None, List, length}
use Rattle.daq_table.specs.Schemas.{IsFirstRepeat, bad_place, columns_in, declared_of, item_names, items_of}
use Rattle.daq_table.specs.declared.schema_column.SchemaColumn.{SchemaColumn}
use Rattle.daq_table.specs.declared.schema_fault.SchemaFault.{SchemaFault}
use Rattle.daq_table.specs.declared.schema_fault.SchemaFault.TheVariants.{BadItem, TooMany, TooManyItems, NoColumn, RepeatedName, NoMemory}

-- the columns that the items of a text declare
abbrev pub kept_of : List ℕ → List SchemaColumn
kept_of text = columns_in (declared_of (items_of text))

-- each item has the form of one, and more than 64 are not skipped
pub record HasTooMany (text : List ℕ) (count : ℕ) : Type 0 where
  pub good : bad_place 0 (items_of text) ≡ None
  pub count_is : count ≡ length (kept_of text)
  pub many : 64 < count

-- at most 64 are not skipped, and there are more than 1,024 with those that are
pub record HasTooManyItems (text : List ℕ) (count : ℕ) : Type 0 where
  pub good : bad_place 0 (items_of text) ≡ None
  pub few : length (kept_of text) ≤ 64
  pub count_is : count ≡ length (items_of text)
  pub many : 1024 < count

-- there are at most 1,024, and all are skipped
pub record SkipsAll (text : List ℕ) : Type 0 where
  pub good : bad_place 0 (items_of text) ≡ None
  pub wide : length (items_of text) ≤ 1024
  pub none : length (kept_of text) ≡ 0

-- each item has the form of one, they are neither too many nor all skipped, and a name is repeated
pub record HasRepeat (text : List ℕ) (first second : ℕ) : Type 0 where
  pub good : bad_place 0 (items_of text) ≡ None
  pub few : length (kept_of text) ≤ 64
  pub wide : length (items_of text) ≤ 1024
  pub some : 1 ≤ length (kept_of text)
  pub repeat : IsFirstRepeat (item_names (declared_of (items_of text))) first second

-- want of memory says nothing of the text
abbrev pub Refuses : List ℕ → SchemaFault → Type 0
Refuses text (BadItem at) = bad_place 0 (items_of text) ≡ Some at
Refuses text (TooMany count) = HasTooMany text count
Refuses text (TooManyItems count) = HasTooManyItems text count
Refuses text NoColumn = SkipsAll text
Refuses text (RepeatedName first second) = HasRepeat text first second
Refuses text NoMemory = ⊤
