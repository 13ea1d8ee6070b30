-- An input that is a CSV under a schema: the steps to its table, and why it is not read or stands for none.
use Rattle.std.specs.Prelude.{◌≡◌, ◌≢◌, ◌⊎◌, ℕ, ◌+◌, ◌<◌, ◌≤◌, List, length}
use Rattle.std.specs.Io.KnownBytes.{Consumes, IsAtEnd}
use Rattle.csv_load.specs.Faults as tables
use Rattle.csv_load.specs.TableOf.{IsTableOf}
use Rattle.csv_load.specs.declared.fault.TableFault.{TableFault}
use Rattle.csv_load.specs.declared.fault.TableFault.TheVariants as t
use Rattle.csv_load.specs.declared.limits.Limits.{Limits}
use Rattle.daq_table.specs.SchemaFaults as schemas
use Rattle.daq_table.specs.Schemas.{DeclaresItems}
use Rattle.daq_table.specs.Tables.{Contents}
use Rattle.daq_table.specs.declared.schema_item.SchemaItem.{SchemaItem}
use Rattle.daq_table.specs.declared.schema_fault.SchemaFault.{SchemaFault}
use Rattle.daq_table.specs.declared.schema_fault.SchemaFault.TheVariants as s
use Rattle.outer_world.specs.Device.{Rose, SourceState}
use Rattle.outer_world.specs.Whole.{ReadsToEnd, Takes}
use Rattle.daq_cli.specs.Steps.{Step, then}
use Rattle.daq_cli.specs.declared.refusal.Refusal.{Refusal}
use Rattle.daq_cli.specs.declared.refusal.Refusal.TheVariants.{Schema, TooLong, Table, ReadFault, NoMemory}

-- the most bytes of an input
abbrev pub most_bytes : ℕ
most_bytes = 1073741824

-- the most rows, cells and names of a table
abbrev pub limits : Limits
limits = record { rows = 16777216; cells = 134217728; names = 65536 }

-- ---- the steps

-- the text declares nothing
pub record ShowsSchema (text : List ℕ) (why : Refusal) : Type 0 where
  pub fault : SchemaFault
  pub shown : fault ≢ s.NoMemory
  pub is : why ≡ Schema fault
  pub faulty : schemas.Refuses text fault

abbrev pub schema_step : List ℕ → Step (List SchemaItem)
schema_step text = record { accepts = DeclaresItems text; shows = ShowsSchema text }

-- the bytes are few enough, and stand for the table
pub record IsTableText (items : List SchemaItem) (bytes : List ℕ) (table : Contents) : Type 0 where
  pub small : length bytes ≤ most_bytes
  pub is_table : IsTableOf bytes items limits table

-- they are too many
pub record ShowsLength (bytes : List ℕ) (why : Refusal) : Type 0 where
  pub longer : most_bytes < length bytes
  pub is : why ≡ TooLong most_bytes

-- they stand for no table
pub record ShowsTable (items : List SchemaItem) (bytes : List ℕ) (why : Refusal) : Type 0 where
  pub small : length bytes ≤ most_bytes
  pub fault : TableFault
  pub shown : fault ≢ t.NoMemory
  pub is : why ≡ Table fault
  pub faulty : tables.Refuses bytes items limits fault

abbrev pub table_step : List SchemaItem → List ℕ → Step Contents
table_step items bytes =
    record { accepts = IsTableText items bytes; shows = λ why. ShowsLength bytes why ⊎ ShowsTable items bytes why }

-- the schema, and then the table of these bytes
abbrev pub input_step : List ℕ → List ℕ → Step Contents
input_step schema bytes = then (schema_step schema) (λ items. table_step items bytes)

-- ---- what becomes of an input

abbrev pub IsSchema : List ℕ → Type 0
IsSchema text = (items : List SchemaItem) × DeclaresItems text items

-- the input was read to its end, and its bytes stand for the table under the schema
pub record ReadsTable (schema : List ℕ) (input input' : SourceState) (table : Contents) : Type 0 where
  pub bytes : List ℕ
  pub read : ReadsToEnd input input' most_bytes bytes
  pub accepted : (input_step schema bytes).accepts table

-- a step shows the refusal by the bytes that came: the input was read to its end, or less than 4,097 bytes past the limit
pub record StopsAtInput {A : Type 0} (step : List ℕ → Step A) (input input' : SourceState) (why : Refusal) : Type 0 where
  pub bytes : List ℕ
  pub came : Consumes input.left input'.left bytes
  pub within : length bytes ≤ most_bytes + 4096
  pub ended : length bytes ≤ most_bytes → IsAtEnd input'.left
  pub shown : (step bytes).shows why

-- why there is no table
pub data InputCause (schema : List ℕ) (input input' : SourceState) : Refusal → Type 0 where
  at_schema : {why : Refusal} → (schema_step schema).shows why → input' ≡ input → InputCause schema input input' why
  at_bytes : {why : Refusal} → StopsAtInput (input_step schema) input input' why → InputCause schema input input' why
  read_fault : IsSchema schema → Rose input.faults input'.faults → Takes input input' 0 most_bytes →
      InputCause schema input input' ReadFault
  no_memory : Takes input input' 0 most_bytes → InputCause schema input input' NoMemory
