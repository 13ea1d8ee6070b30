-- `query`: a question to the table whose planes a file holds. Its head is read, and then the planes of the rounds, and nothing else.
use Rattle.std.specs.Prelude.{◌≡◌, ◌⊎◌, ℕ, ◌≤◌, List, length, Some}
use Rattle.std.specs.declared.option.Option.{Option}
use Rattle.command_line.specs.Commands.{Options}
use Rattle.command_line.specs.Commands as line
use Rattle.daq_table.specs.Tables.{Contents, frame_of}
use Rattle.daq_table.specs.declared.table_head.Head.{Head}
use Rattle.plane_course.specs.Told.{IsUnpadded, bits_at}
use Rattle.outer_world.specs.Device.{SinkState, StoreState}
use Rattle.outer_world.specs.Whole.{HoldsSame}
use Rattle.plane_file.specs.Format.{IsFileOf}
use Rattle.plane_file.specs.Opening.{Opened, Opens}
use Rattle.plane_file.specs.declared.plane_fault.PlaneFault.{PlaneFault}
use Rattle.plane_schedule.specs.declared.policy.Plan.{Plan}
use Rattle.query_model.specs.declared.query.TypedQuery.{TypedQuery}
use Rattle.sql_print.specs.Printed.{printed}
use Rattle.sql_text.specs.Answer.{IsText}
use Rattle.sql_text.specs.Tree as sql
use Rattle.table_rounds.specs.Outcomes.{EndIn, Outcome, ended}
use Rattle.table_rounds.specs.Rounds.{rounds_of}
use Rattle.plane_course.specs.declared.reading.StepFault.{StepFault}
use Rattle.daq_cli.specs.FileReports.{FileReport, IsCutOff, IsReported, IsStopped, refusal_at}
use Rattle.daq_cli.specs.Files.{StopsOpening, file_step}
use Rattle.daq_cli.specs.OfTables.{AreCertainOf, AreOfTables}
use Rattle.daq_cli.specs.Questions.{Asked, IsAnswerable, IsPlanned, IsReport, ShowsQuestion, asked_with, question_of, sql_step}
use Rattle.daq_cli.specs.Report.{query_line, report, shown_rounds}
use Rattle.daq_cli.specs.Steps.{Step, then}
use Rattle.daq_cli.specs.declared.refusal.Refusal.{Refusal}
use Rattle.daq_cli.specs.declared.refusal.Refusal.TheVariants.{WriteFault, NoMemory}

-- ---- the steps

-- the question to the table of a file with that head
abbrev pub head_step : sql.Query → Options → Head → Step Asked
head_step query options head =
    let asked = asked_with query options head in
    record { accepts = λ one. (one ≡ asked) × IsAnswerable asked; shows = ShowsQuestion asked }

-- the SQL, then the file, then the question
abbrev pub query_step : line.Query → List ℕ → Step Asked
query_step words bytes = then (sql_step words.sql) (λ query. then (file_step bytes) (λ file. head_step query words.options file.head))

-- the rounds of the question over the planes in the file come to this; a plane with a bit past its last row cannot be read
pub record EndsIn (asked : Asked) (bytes : List ℕ) (outcome : Outcome) : Type 0 where
  pub typed : TypedQuery
  pub plan : Plan
  pub planned : IsPlanned asked typed plan
  pub reads : List ℕ
  pub ends : EndIn (rounds_of plan typed (frame_of asked.head) (bits_at asked.head bytes)) (IsUnpadded asked.head bytes) reads outcome

-- they have a last one, and this is the report of all
pub record IsFileReport (asked : Asked) (bytes text : List ℕ) : Type 0 where
  pub rounds : EndsIn asked bytes ended
  pub is : text ≡ report (printed asked.query) asked.head rounds.plan rounds.typed (bits_at asked.head bytes) rounds.reads

-- they stop at this plane
pub record ShowsPlane (asked : Asked) (bytes : List ℕ) (why : Refusal) : Type 0 where
  pub outcome : Outcome
  pub rounds : EndsIn asked bytes outcome
  pub is : refusal_at outcome ≡ Some why

abbrev pub rounds_step : Asked → List ℕ → Step (List ℕ)
rounds_step asked bytes = record { accepts = IsFileReport asked bytes; shows = ShowsPlane asked bytes }

-- and then the rounds
abbrev pub report_step : line.Query → List ℕ → Step (List ℕ)
report_step words bytes = then (query_step words bytes) (λ asked. rounds_step asked bytes)

-- what the words show, or with them a store that tells its bytes
abbrev pub QueryShows : line.Query → Option (List ℕ) → Refusal → Type 0
QueryShows words told why = (sql_step words.sql).shows why ⊎ ((bytes : List ℕ) × (told ≡ Some bytes) × (report_step words bytes).shows why)

-- they are accepted, with such a store, and this is the report
abbrev pub QueryAccepts : line.Query → Option (List ℕ) → List ℕ → Type 0
QueryAccepts words told text = (bytes : List ℕ) × (told ≡ Some bytes) × (report_step words bytes).accepts text

-- ---- what becomes of a `query`

-- the text is this query, and this file was opened
pub record HasOpened (words : line.Query) (planes opened : StoreState) (query : sql.Query) (file : Opened) : Type 0 where
  pub is_text : IsText words.sql query
  pub opens : Opens planes opened file
  pub same : HoldsSame planes opened

-- the file was opened, which hands over the places of its head, and there is a plan for the question to its table
pub record Begins (words : line.Query) (planes opened : StoreState) : Type 0 where
  pub query : sql.Query
  pub is_text : IsText words.sql query
  pub file : Opened
  pub opens : Opens planes opened file
  pub same : HoldsSame planes opened
  pub typed : TypedQuery
  pub plan : Plan
  pub planned : IsPlanned (asked_with query words.options file.head) typed plan

-- what the report is of tables: that of each table that has the planes read; and where the bytes are the file of a table, the report of
-- the question to that table, which `ask` writes
pub record AreAsked (words : line.Query) (planes opened : StoreState) (begun : Begins words planes opened) (bytes reads : List ℕ)
    : Type 0 where
  pub tables : AreOfTables begun.file.head begun.plan begun.typed bytes reads
  pub as_asked : (version : ℕ) (table : Contents) → IsFileOf bytes version table →
      IsReport (question_of begun.query words.options table)
      (report (printed begun.query) begun.file.head begun.plan begun.typed (bits_at begun.file.head bytes) reads)

-- the report of the question
abbrev pub report_of : (words : line.Query) (planes opened : StoreState) → Begins words planes opened → FileReport
report_of words planes opened begun = record {
  head = begun.file.head;
  line = query_line (printed begun.query);
  shown = shown_rounds begun.file.head begun.plan begun.typed;
  sure = AreCertainOf begun.typed (frame_of begun.file.head);
  of_tables = AreAsked words planes opened begun;
}

-- a `query` was done
pub record Queries (words : line.Query) (planes planes' : StoreState) (out out' : SinkState) : Type 0 where
  pub opened : StoreState
  pub begun : Begins words planes opened
  pub reported : IsReported (report_of words planes opened begun) planes opened planes' out out'

-- why a `query` stops. Before its first round nothing was written; from then on, told or not, rounds over some planes, and in a failed
-- write a part of the last
pub data QueryCause (words : line.Query) (planes planes' : StoreState) (out out' : SinkState) : Refusal → Type 0 where
  at_words : {why : Refusal} → (sql_step words.sql).shows why → planes' ≡ planes → out' ≡ out → QueryCause words planes planes' out out' why
  at_file : {why : Refusal} (query : sql.Query) → IsText words.sql query → StopsOpening planes planes' why → out' ≡ out →
      QueryCause words planes planes' out out' why
  at_question : {why : Refusal} (query : sql.Query) (file : Opened) → IsText words.sql query → Opens planes planes' file →
      ShowsQuestion (asked_with query words.options file.head) why → out' ≡ out → QueryCause words planes planes' out out' why
  at_write : (opened : StoreState) (begun : Begins words planes opened) →
      IsCutOff (report_of words planes opened begun) planes opened planes' out out' → QueryCause words planes planes' out out' WriteFault
  at_plane : {why : Refusal} (opened : StoreState) (begun : Begins words planes opened) (fault : StepFault PlaneFault) →
      IsStopped (report_of words planes opened begun) planes opened planes' out out' fault why →
      QueryCause words planes planes' out out' why
  no_memory : length words.sql ≤ 4096 → (planes' ≡ planes ⊎ ((file : Opened) × Opens planes planes' file)) → out' ≡ out →
      QueryCause words planes planes' out out' NoMemory
