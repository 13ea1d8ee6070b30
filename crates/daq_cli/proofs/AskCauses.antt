-- Why each step of an `ask` stops it.
use Rattle.std.proofs.Common.{◌≡◌, ℕ, ◌≤◌, List, length, refl, sym, subst, arith, inl, inr, ◌⊎◌}
use Rattle.command_line.specs.Commands.{Ask}
use Rattle.daq_table.specs.Tables.{Contents}
use Rattle.outer_world.specs.Device.{SinkState, SourceState}
use Rattle.sql_text.specs.Answer.{IsText}
use Rattle.sql_text.specs.Tree.{Query}
use Rattle.daq_cli.specs.Inputs as inputs
use Rattle.daq_cli.specs.Inputs.{InputCause, ReadsTable, input_step, schema_step, table_step}
use Rattle.daq_cli.specs.Questions.{Question, QuestionCause, Reports, ShowsText, question_of, question_step}
use Rattle.daq_cli.specs.Questions as question
use Rattle.daq_cli.specs.Steps.{Step, then}
use Rattle.daq_cli.specs.Worlds.{Extent, whole}
use Rattle.daq_cli.specs.commands.Ask.{AskCause, Asks, at_words, at_input, read_fault, write_fault, no_memory}
use Rattle.daq_cli.specs.declared.refusal.Refusal.{Refusal}
use Rattle.daq_cli.specs.declared.refusal.Refusal.TheVariants.{NoMemory}
use Rattle.daq_cli.proofs.InputCauses.{all_taken, nothing_taken}

-- what follows the SQL
abbrev table_and_question : Ask → Query → List ℕ → Step Question
table_and_question ask query bytes = then (schema_step ask.schema) (λ columns. then (table_step columns bytes) (λ table. question_step query ask.options table))

module _ (ask : Ask) (out : SinkState) where
  -- the SQL
  pub ask_text : (input : SourceState) (why : Refusal) → ShowsText ask.sql why ⊎ ((why ≡ NoMemory) × (length ask.sql ≤ 4096)) → AskCause ask input input out out why
  ask_text input why (inl p) = at_words (inl p) refl refl
  ask_text input why (inr (e, few)) = subst (AskCause ask input input out out) (sym e) (no_memory few (nothing_taken input) refl)

  module _ (query : Query) (is_text : IsText ask.sql query) (input input' : SourceState) where
    -- the input
    pub ask_input : (why : Refusal) → InputCause ask.schema input input' why → AskCause ask input input' out out why
    ask_input why (inputs.at_schema p i) = at_words (inr (query, is_text, p)) i refl
    ask_input why (inputs.at_bytes stop) =
        at_input (record { bytes = stop.bytes; came = stop.came; within = stop.within; ended = stop.ended; shown = inr (query, is_text, by stop.shown) }) refl
      where
        by : (input_step ask.schema stop.bytes).shows why → (table_and_question ask query stop.bytes).shows why
        by (inl p) = inl p
        by (inr (columns, declared, p)) = inr (columns, declared, inl p)
    ask_input why (inputs.read_fault (columns, declared) rose taken) = read_fault (columns, (query, is_text, declared)) rose taken refl
    ask_input why (inputs.no_memory taken) = no_memory is_text.short taken refl

    module _ (table : Contents) (read : ReadsTable ask.schema input input' table) (out' : SinkState) where
      answered : (extent : Extent) → Reports (question_of query ask.options table) extent out out' → Asks ask extent input input' out out'
      answered extent reported =
          let (columns, declared, is_table) = read.accepted in
          record {
            bytes = read.bytes;
            read = read.read;
            question = question_of query ask.options table;
            accepted = (query, is_text, (columns, declared, (table, is_table, (refl, record { typed = reported.is_report.typed; plan = reported.is_report.plan; planned = reported.is_report.planned }))));
            reported = reported;
          }

      -- the question was answered
      pub ask_done : Reports (question_of query ask.options table) whole out out' → Asks ask whole input input' out out'
      ask_done reported = answered whole reported

      -- or was not
      pub ask_question : (why : Refusal) → QuestionCause (question_of query ask.options table) out out' why → AskCause ask input input' out out' why
      ask_question why (question.step p o) =
          let (columns, declared, is_table) = read.accepted in
          let small = read.read.within in
          at_input (record {
            bytes = read.bytes;
            came = read.read.came;
            within = omega (arith, small);
            ended = λ few. read.read.ended;
            shown = inr (query, is_text, inr (columns, declared, inr (table, is_table, p)));
          }) o
      ask_question why (question.write_fault reported) = write_fault (answered _ reported)
      ask_question why (question.no_memory o) = no_memory is_text.short (all_taken ask.schema input input' table read) o
