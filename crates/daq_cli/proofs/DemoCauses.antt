-- Why each step of a `demo` stops it.
use Rattle.std.proofs.Common.{◌≡◌, ◌≤◌, length, refl, sym, subst, inl, inr, ◌⊎◌}
use Rattle.command_line.specs.Commands.{Demo}
use Rattle.daq_table.specs.Tables.{Contents}
use Rattle.outer_world.specs.Device.{SinkState}
use Rattle.sql_text.specs.Answer.{IsText}
use Rattle.sql_text.specs.Tree.{Query}
use Rattle.daq_cli.specs.Questions.{QuestionCause, Reports, ShowsText, question_of}
use Rattle.daq_cli.specs.Questions as question
use Rattle.daq_cli.specs.Worlds.{whole}
use Rattle.daq_cli.specs.commands.Demo.{DemoCause, Demonstrates, IsGenerated, ShowsRows, step, write_fault, no_memory}
use Rattle.daq_cli.specs.declared.refusal.Refusal.{Refusal}
use Rattle.daq_cli.specs.declared.refusal.Refusal.TheVariants.{NoMemory}

module _ (demo : Demo) (out : SinkState) where
  -- the SQL
  pub demo_text : (why : Refusal) → ShowsText demo.sql why ⊎ ((why ≡ NoMemory) × (length demo.sql ≤ 4096)) → DemoCause demo out out why
  demo_text why (inl p) = step (inl p) refl
  demo_text why (inr (e, few)) = subst (DemoCause demo out out) (sym e) (no_memory few refl)

  module _ (query : Query) (is_text : IsText demo.sql query) where
    -- the generator
    pub demo_rows : (why : Refusal) → ShowsRows demo.rows why ⊎ (why ≡ NoMemory) → DemoCause demo out out why
    demo_rows why (inl p) = step (inr (query, is_text, inl p)) refl
    demo_rows why (inr e) = subst (DemoCause demo out out) (sym e) (no_memory is_text.short refl)

    module _ (table : Contents) (is_table : IsGenerated demo.seed demo.rows table) (out' : SinkState) where
      -- the question was answered
      pub demo_done : Reports (question_of query demo.options table) whole out out' → Demonstrates demo whole out out'
      demo_done reported = record {
        question = question_of query demo.options table;
        accepted = (query, is_text, (table, is_table, (refl, record { typed = reported.is_report.typed; plan = reported.is_report.plan; planned = reported.is_report.planned })));
        reported = reported;
      }

      -- or was not
      pub demo_question : (why : Refusal) → QuestionCause (question_of query demo.options table) out out' why → DemoCause demo out out' why
      demo_question why (question.step p o) = step (inr (query, is_text, inr (table, is_table, p))) o
      demo_question why (question.write_fault reported) = write_fault (record {
        question = question_of query demo.options table;
        accepted = (query, is_text, (table, is_table, (refl, record { typed = reported.is_report.typed; plan = reported.is_report.plan; planned = reported.is_report.planned })));
        reported = reported;
      })
      demo_question why (question.no_memory o) = no_memory is_text.short o
