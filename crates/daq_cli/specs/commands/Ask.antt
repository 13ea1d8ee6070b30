-- `ask`: a question to the table that the bytes of the input stand for.
use Rattle.std.specs.Prelude.{◌≡◌, ◌⊎◌, ℕ, ◌≤◌, List, length, Some}
use Rattle.std.specs.declared.option.Option.{Option}
use Rattle.command_line.specs.Commands.{Ask}
use Rattle.daq_table.specs.declared.schema_item.SchemaItem.{SchemaItem}
use Rattle.outer_world.specs.Device.{Rose, SourceState, SinkState}
use Rattle.outer_world.specs.Whole.{ReadsToEnd, Takes}
use Rattle.daq_cli.specs.Inputs.{StopsAtInput, most_bytes, schema_step, table_step}
use Rattle.daq_cli.specs.Questions.{Question, Reports, question_step, sql_step}
use Rattle.daq_cli.specs.Steps.{Step, then}
use Rattle.daq_cli.specs.Worlds.{Extent, partly}
use Rattle.daq_cli.specs.declared.refusal.Refusal.{Refusal}
use Rattle.daq_cli.specs.declared.refusal.Refusal.TheVariants.{ReadFault, WriteFault, NoMemory}

-- ---- the steps

-- the words alone: the SQL is judged before the schema
abbrev pub words_step : Ask → Step (List SchemaItem)
words_step ask = then (sql_step ask.sql) (λ query. schema_step ask.schema)

-- and where the input has these bytes: then its table, and the question to it
abbrev pub ask_step : Ask → List ℕ → Step Question
ask_step ask bytes =
    then (sql_step ask.sql) (λ query. then (schema_step ask.schema) (λ items.
    then (table_step items bytes) (λ table. question_step query ask.options table)))

-- the words are not refused
abbrev pub AcceptsWords : Ask → Type 0
AcceptsWords ask = (items : List SchemaItem) × (words_step ask).accepts items

-- what the words show, or with them an input that tells its bytes
abbrev pub AskShows : Ask → Option (List ℕ) → Refusal → Type 0
AskShows ask told why = (words_step ask).shows why ⊎ ((bytes : List ℕ) × (told ≡ Some bytes) × (ask_step ask bytes).shows why)

-- they are accepted, with such an input, as this question
abbrev pub AskAccepts : Ask → Option (List ℕ) → Question → Type 0
AskAccepts ask told question = (bytes : List ℕ) × (told ≡ Some bytes) × (ask_step ask bytes).accepts question

-- ---- what becomes of an `ask`

-- the input was read to its end, and the report of the question to its table written, whole or in part
pub record Asks (ask : Ask) (extent : Extent) (input input' : SourceState) (out out' : SinkState) : Type 0 where
  pub bytes : List ℕ
  pub read : ReadsToEnd input input' most_bytes bytes
  pub question : Question
  pub accepted : (ask_step ask bytes).accepts question
  pub reported : Reports question extent out out'

-- why an `ask` stops; but for a failed write nothing was written
pub data AskCause (ask : Ask) (input input' : SourceState) (out out' : SinkState) : Refusal → Type 0 where
  at_words : {why : Refusal} → (words_step ask).shows why → input' ≡ input → out' ≡ out → AskCause ask input input' out out' why
  at_input : {why : Refusal} → StopsAtInput (ask_step ask) input input' why → out' ≡ out → AskCause ask input input' out out' why
  read_fault : AcceptsWords ask → Rose input.faults input'.faults → Takes input input' 0 most_bytes → out' ≡ out →
      AskCause ask input input' out out' ReadFault
  write_fault : Asks ask partly input input' out out' → AskCause ask input input' out out' WriteFault
  no_memory : length ask.sql ≤ 4096 → Takes input input' 0 most_bytes → out' ≡ out → AskCause ask input input' out out' NoMemory
