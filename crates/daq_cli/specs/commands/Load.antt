-- `load`: the table that the bytes of the input stand for is written as a file of planes.
use Rattle.std.specs.Prelude.{◌≡◌, ◌⊎◌, ℕ, List, codes, Some}
use Rattle.std.specs.declared.option.Option.{Option}
use Rattle.command_line.specs.Commands.{Load}
use Rattle.daq_table.specs.Tables.{Contents}
use Rattle.outer_world.specs.Device.{SourceState, SinkState}
use Rattle.daq_cli.specs.Inputs.{InputCause, ReadsTable, input_step, schema_step}
use Rattle.daq_cli.specs.Steps.{Step}
use Rattle.daq_cli.specs.Stores.{StoreCause, WritesTable}
use Rattle.daq_cli.specs.Worlds.{whole}
use Rattle.daq_cli.specs.declared.refusal.Refusal.{Refusal}

-- ---- the steps

-- the schema, and then the table of the input
abbrev pub load_step : Load → List ℕ → Step Contents
load_step load bytes = input_step load.schema bytes

-- what the words show, or with them an input that tells its bytes
abbrev pub LoadShows : Load → Option (List ℕ) → Refusal → Type 0
LoadShows load told why = (schema_step load.schema).shows why ⊎ ((bytes : List ℕ) × (told ≡ Some bytes) × (load_step load bytes).shows why)

-- they are accepted, with such an input, as this table
abbrev pub LoadAccepts : Load → Option (List ℕ) → Contents → Type 0
LoadAccepts load told table = (bytes : List ℕ) × (told ≡ Some bytes) × (load_step load bytes).accepts table

-- ---- what becomes of a `load`

abbrev pub loaded : List ℕ
loaded = codes "loaded"

-- the input was read to its end, and the file of its table was written, and the line
pub record Loads (load : Load) (input input' : SourceState) (made made' out out' : SinkState) : Type 0 where
  pub table : Contents
  pub read : ReadsTable load.schema input input' table
  pub written : WritesTable loaded table whole made made' out out'

-- why a `load` stops; but for a failed write nothing was written
pub data LoadCause (load : Load) (input input' : SourceState) (made made' out out' : SinkState) : Refusal → Type 0 where
  at_input : {why : Refusal} → InputCause load.schema input input' why → made' ≡ made → out' ≡ out →
      LoadCause load input input' made made' out out' why
  at_table : {why : Refusal} (table : Contents) → ReadsTable load.schema input input' table →
      StoreCause loaded table made made' out out' why
      → LoadCause load input input' made made' out out' why
