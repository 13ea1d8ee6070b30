-- Why each step of a `query` stops it, and what it comes to.
use Rattle.std.proofs.Common.{◌≡◌, ◌⊎◌, ℕ, ◌≤◌, List, ◌++◌, length, Ok, Err, refl, sym, ap, subst, inl, inr, IsSome}
use Rattle.command_line.specs.Commands as line
use Rattle.daq_table.specs.Tables.{Contents, frame_of}
use Rattle.plane_course.specs.Told.{bits_at}
use Rattle.outer_world.specs.Device.{SinkState, StoreState}
use Rattle.plane_file.specs.Format.{IsFileOf}
use Rattle.plane_file.specs.Opening.{IsFileHead, Opened, Opens, Refuses}
use Rattle.plane_file.specs.declared.file_fault.FileFault.{FileFault}
use Rattle.plane_file.specs.declared.plane_fault.PlaneFault.{PlaneFault}
use Rattle.query_model.specs.Worlds.{NamesColumns}
use Rattle.sql_print.specs.Printed.{printed}
use Rattle.sql_text.specs.Answer.{IsText}
use Rattle.sql_text.specs.Tree as sql
use Rattle.table_rounds.proofs.OfTables.{same_stages}
use Rattle.table_rounds.specs.Headline.{AreOfLongs, RoundsAreCertain, RoundsHaveTables}
use Rattle.table_rounds.specs.Rounds.{AreAllRounds, AreRounds}
use Rattle.daq_cli.specs.Faults as of
use Rattle.daq_cli.specs.FileReports.{EndsFile, FileReport, StopsAfter}
use Rattle.daq_cli.specs.OfTables.{AreCertainOf, AreOfTables}
use Rattle.daq_cli.specs.Questions.{IsReport, ShowsText, StopsPlanning, asked_with, question_of}
use Rattle.daq_cli.specs.Report.{EndsOverSome, HasStopCause, WritesOverSome, query_line, report}
use Rattle.daq_cli.specs.commands.Query.{AreAsked, Begins, Queries, QueryCause, report_of, at_words, at_file, at_question, at_write, at_plane, no_memory}
use Rattle.daq_cli.specs.declared.refusal.Refusal.{Refusal}
use Rattle.daq_cli.specs.declared.refusal.Refusal.TheVariants.{NoMemory}
use Rattle.daq_cli.specs.declared.stop.Stop.{Stop}
use Rattle.daq_cli.specs.declared.stop.Stop.TheVariants.{Failed, Step}
use Rattle.daq_cli.proofs.FileReports.{cut_off, reported, stopped_at}
use Rattle.daq_cli.proofs.OfTables.{are_of_tables}

-- ---- before the rounds

module _ (words : line.Query) (out : SinkState) where
  -- the SQL
  pub query_text : (planes : StoreState) (why : Refusal) → ShowsText words.sql why ⊎ ((why ≡ NoMemory) × (length words.sql ≤ 4096)) → QueryCause words planes planes out out why
  query_text planes why (inl shown) = at_words shown refl refl
  query_text planes why (inr (e, few)) = subst (QueryCause words planes planes out out) (sym e) (no_memory few (inl refl) refl)

  module _ (query : sql.Query) (is_text : IsText words.sql query) (planes planes' : StoreState) where
    -- the file
    pub query_file : (fault : FileFault) (why : Refusal) → Refuses planes planes' fault → why ≡ of.opening fault → QueryCause words planes planes' out out why
    query_file fault why refused is = at_file query is_text (record { fault = fault; is = is; refused = refused }) refl

    -- the question
    pub query_plan : (file : Opened) → Opens planes planes' file → (why : Refusal) → StopsPlanning (asked_with query words.options file.head) why → QueryCause words planes planes' out out why
    query_plan file opens why (inl shown) = at_question query file is_text opens shown refl
    query_plan file opens why (inr e) = subst (QueryCause words planes planes' out out) (sym e) (no_memory is_text.short (inr (file, opens)) refl)

-- ---- the rounds

module _ (words : line.Query) (planes opened planes' : StoreState) (out out' : SinkState) (begun : Begins words planes opened)
    (certain : RoundsAreCertain) (have : RoundsHaveTables) (named : NamesColumns begun.typed (frame_of begun.file.head)) (longs : AreOfLongs (frame_of begun.file.head)) where
  abbrev said : FileReport
  said = report_of words planes opened begun

  headline : (bytes reads : List ℕ) → AreRounds begun.plan begun.typed (frame_of begun.file.head) (bits_at begun.file.head bytes) reads →
      AreCertainOf begun.typed (frame_of begun.file.head) (bits_at begun.file.head bytes) reads
  headline bytes reads rounds = λ cells has. (
    certain begun.plan begun.typed (frame_of begun.file.head) (bits_at begun.file.head bytes) reads cells named longs rounds has,
    λ round h. same_stages begun.typed (frame_of begun.file.head) (bits_at begun.file.head bytes) reads cells has round,
  )

  -- the text is the report of the question to the table whose file the bytes are
  as_asked : (bytes reads : List ℕ) → AreAllRounds begun.plan begun.typed (frame_of begun.file.head) (bits_at begun.file.head bytes) reads →
      AreOfTables begun.file.head begun.plan begun.typed bytes reads → (version : ℕ) (table : Contents) → IsFileOf bytes version table →
      IsReport (question_of begun.query words.options table) (report (printed begun.query) begun.file.head begun.plan begun.typed (bits_at begun.file.head bytes) reads)
  as_asked bytes reads rounds tables version table is =
      let (same, has) = tables.own version table is in
      let own = tables.each table.cells has in
      subst (λ h. IsReport (question_of begun.query words.options (record { head = h; cells = table.cells })) (report (printed begun.query) begun.file.head begun.plan begun.typed (bits_at begun.file.head bytes) reads)) (sym same)
      (record {
        typed = begun.typed;
        plan = begun.plan;
        planned = begun.planned;
        reads = reads;
        rounds = own.rounds;
        headline = own.headline;
        is = ap (λ l. query_line (printed begun.query) ++ l) own.text;
      })

  are_asked : (bytes reads : List ℕ) → AreAllRounds begun.plan begun.typed (frame_of begun.file.head) (bits_at begun.file.head bytes) reads → IsFileHead bytes begun.file.version begun.file.head →
      AreAsked words planes opened begun bytes reads
  are_asked bytes reads rounds front =
      let tables = are_of_tables have begun.file.head begun.file.version begun.plan begun.typed bytes reads front named rounds (λ cells has. (headline bytes reads rounds.rounds cells has).0) in
      record { tables = tables; as_asked = as_asked bytes reads rounds tables }

  pub query_done : WritesOverSome said.line said.shown IsSome out out' → EndsFile said.line said.shown said.head (Ok tt) opened planes' out out' → Queries words planes planes' out out'
  query_done written ends = record { opened = opened; begun = begun; reported = reported said planes opened planes' out out' begun.same headline are_asked begun.opens.spelled written ends }

  pub query_stop : (stop : Stop PlaneFault) (why : Refusal) → why ≡ of.stop stop → HasStopCause (StopsAfter said.head opened planes') (Err stop) out out' →
      EndsOverSome said.line said.shown (Err stop) out out' → EndsFile said.line said.shown said.head (Err stop) opened planes' out out' → QueryCause words planes planes' out out' why
  query_stop Failed why is cause written ends =
      subst (QueryCause words planes planes' out out') (sym is) (at_write opened begun (cut_off said planes opened planes' out out' begun.same headline cause written ends))
  query_stop (Step fault) why is cause written ends = at_plane opened begun fault (stopped_at said planes opened planes' out out' begun.same headline fault why is cause written ends)
