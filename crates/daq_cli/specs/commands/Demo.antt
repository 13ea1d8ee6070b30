-- `demo`: a question to the table that the generator makes of a seed.
use Rattle.std.specs.Prelude.{◌≡◌, ℕ, ◌<◌, ◌≤◌, length}
use Rattle.command_line.specs.Commands.{Demo}
use Rattle.daq_table.specs.Tables.{Contents}
use Rattle.outer_world.specs.Device.{SinkState}
use Rattle.table_gen.specs.TableOf.{IsTableOfSeed}
use Rattle.daq_cli.specs.Questions.{Question, Reports, question_step, sql_step}
use Rattle.daq_cli.specs.Steps.{Step, then}
use Rattle.daq_cli.specs.Worlds.{Extent, partly}
use Rattle.daq_cli.specs.declared.refusal.Refusal.{Refusal}
use Rattle.daq_cli.specs.declared.refusal.Refusal.TheVariants.{TooManyRows, WriteFault, NoMemory}

-- the most rows that the generator makes
abbrev pub most_rows : ℕ
most_rows = 16777216

-- few rows are asked for, and this is their table
pub record IsGenerated (seed rows : ℕ) (table : Contents) : Type 0 where
  pub few : rows ≤ most_rows
  pub is_table : IsTableOfSeed seed rows table

-- too many rows are asked for
pub record ShowsRows (rows : ℕ) (why : Refusal) : Type 0 where
  pub many : most_rows < rows
  pub is : why ≡ TooManyRows

abbrev pub generator_step : ℕ → ℕ → Step Contents
generator_step seed rows = record { accepts = IsGenerated seed rows; shows = ShowsRows rows }

-- the SQL, then the generator, then the question
abbrev pub demo_step : Demo → Step Question
demo_step demo =
    then (sql_step demo.sql) (λ query. then (generator_step demo.seed demo.rows) (λ table. question_step query demo.options table))

-- the report of the question was written, whole or in part
pub record Demonstrates (demo : Demo) (extent : Extent) (out out' : SinkState) : Type 0 where
  pub question : Question
  pub accepted : (demo_step demo).accepts question
  pub reported : Reports question extent out out'

-- why a `demo` stops; but for a failed write nothing was written
pub data DemoCause (demo : Demo) (out out' : SinkState) : Refusal → Type 0 where
  step : {why : Refusal} → (demo_step demo).shows why → out' ≡ out → DemoCause demo out out' why
  write_fault : Demonstrates demo partly out out' → DemoCause demo out out' WriteFault
  no_memory : length demo.sql ≤ 4096 → out' ≡ out → DemoCause demo out out' NoMemory
