-- `session`: the queries of a script over the planes that a file holds. Each plane is read once, for all queries that await it.
use Rattle.std.specs.Prelude.{◌≡◌, ◌≢◌, ◌⊎◌, ℕ, List, length, map, slice_get, Some}
use Rattle.std.specs.declared.option.Option.{Option}
use Rattle.std.specs.declared.option.Option.TheVariants.{None}
use Rattle.command_line.specs.Commands.{Options, ReadOrder}
use Rattle.command_line.specs.Commands as line
use Rattle.daq_table.specs.Tables.{frame_of}
use Rattle.daq_table.specs.declared.table_head.Head.{Head}
use Rattle.plane_course.specs.Told.{IsUnpadded, bits_at}
use Rattle.multi_session.specs.Limits.{limit_passed}
use Rattle.multi_session.specs.declared.limits.SessionFault.{SessionFault}
use Rattle.outer_world.specs.Device.{SinkState, SourceState, StoreState}
use Rattle.outer_world.specs.Whole.{HoldsSame}
use Rattle.plane_file.specs.Opening.{Opened, Opens}
use Rattle.plane_file.specs.declared.plane_fault.PlaneFault.{PlaneFault}
use Rattle.plane_schedule.specs.declared.policy.Plan.{Plan}
use Rattle.plane_schedule.specs.declared.policy.Policy.{Policy}
use Rattle.plane_schedule.specs.declared.policy.Policy.TheVariants as p
use Rattle.query_model.specs.declared.query.TypedQuery.{TypedQuery}
use Rattle.table_rounds.specs.Steps.{own_reads, places_read, steps_of}
use Rattle.sql_print.specs.Printed.{printed}
use Rattle.sql_typing.specs.Refusals as typing
use Rattle.sql_typing.specs.Refusals.{IsTyped}
use Rattle.sql_typing.specs.declared.fault.TypeFault.{TypeFault}
use Rattle.sql_typing.specs.declared.fault.TypeFault.TheVariants as y
use Rattle.table_rounds.specs.Outcomes.{EndIn, Outcome, ended}
use Rattle.table_rounds.specs.Rounds.{Planes}
use Rattle.plane_course.specs.declared.reading.StepFault.{StepFault}
use Rattle.daq_cli.specs.FileReports.{FileReport, IsCutOff, IsReported, IsStopped, refusal_at}
use Rattle.daq_cli.specs.Files.{StopsOpening, file_step}
use Rattle.daq_cli.specs.OfTables.{AllAreOfTables, AreCertainOf}
use Rattle.daq_cli.specs.Questions.{extras_of, nearness_of}
use Rattle.daq_cli.specs.Scripts.{ReadsScript, ScriptCause, Scripted, queries_step}
use Rattle.daq_cli.specs.SessionReport.{queries_lines, session_report, shown_steps}
use Rattle.daq_cli.specs.Steps.{Step, each, then}
use Rattle.daq_cli.specs.declared.refusal.Refusal.{Refusal}
use Rattle.daq_cli.specs.declared.refusal.Refusal.TheVariants.{LineTyping, Session, WriteFault, NoMemory}

-- ---- the steps

-- a query cannot be typed on tables with that head
pub record ShowsTyping (head : Head) (one : Scripted) (why : Refusal) : Type 0 where
  pub fault : TypeFault
  pub shown : fault ≢ y.NoMemory
  pub is : why ≡ LineTyping one.line fault
  pub faulty : typing.Refuses one.query head fault

abbrev pub typing_step : Head → Scripted → Step TypedQuery
typing_step head one = record { accepts = IsTyped one.query head; shows = ShowsTyping head one }

-- what is asked of a table, of which the head alone is known: queries, and how they are typed
pub record AskedTogether : Type 0 where
  pub queries : List Scripted
  pub typed : List TypedQuery
  pub head : Head

abbrev pub asked_together : List Scripted → List TypedQuery → Head → AskedTogether
asked_together queries typed head = record { queries = queries; typed = typed; head = head }

pub record IsWithin (asked one : AskedTogether) : Type 0 where
  pub same : one ≡ asked
  pub within : limit_passed asked.head.rows asked.typed ≡ None

-- together they pass a limit of sessions
pub record ShowsLimit (asked : AskedTogether) (why : Refusal) : Type 0 where
  pub fault : SessionFault
  pub is : why ≡ Session fault
  pub passed : limit_passed asked.head.rows asked.typed ≡ Some fault

abbrev pub limits_step : AskedTogether → Step AskedTogether
limits_step asked = record { accepts = IsWithin asked; shows = ShowsLimit asked }

-- the typing of each query, and then the limits of all
abbrev pub together_step : List Scripted → Head → Step AskedTogether
together_step queries head = then (each (typing_step head) queries) (λ typed. limits_step (asked_together queries typed head))

-- the queries of the script, then the file, then what is asked of its table
abbrev pub session_step : List ℕ → List ℕ → Step AskedTogether
session_step script bytes = then (queries_step script) (λ queries. then (file_step bytes) (λ file. together_step queries file.head))

-- the policy of this order, which is no list
abbrev pub IsPolicyFor : ReadOrder → Policy → Type 0
IsPolicyFor (line.fixed named) policy = policy ≡ p.By named
IsPolicyFor (line.reads names) policy = ⊥

-- the plan of the options, which is that of all queries
pub record IsSessionPlan (options : Options) (plan : Plan) : Type 0 where
  pub policy : IsPolicyFor options.order plan.policy
  pub near : plan.near ≡ nearness_of options
  pub most : plan.most ≡ options.rounds
  pub listing : plan.listing ≡ options.listing
  pub extras : plan.extras ≡ extras_of options

-- the printed forms of queries
abbrev pub printed_forms : List Scripted → List (List ℕ)
printed_forms queries = map (λ one. printed one.query) queries

-- the steps over the planes in the file come to this; a plane with a bit past its last row cannot be read
pub record StepsEndIn (options : Options) (asked : AskedTogether) (bytes : List ℕ) (outcome : Outcome) : Type 0 where
  pub plan : Plan
  pub planned : IsSessionPlan options plan
  pub reads : List ℕ
  pub ends : EndIn (steps_of plan asked.typed asked.head (bits_at asked.head bytes)) (IsUnpadded asked.head bytes) reads outcome

-- they have a last one, and this is the report of all
pub record IsSessionReport (options : Options) (asked : AskedTogether) (bytes text : List ℕ) : Type 0 where
  pub steps : StepsEndIn options asked bytes ended
  pub is : text ≡ session_report (printed_forms asked.queries) asked.head steps.plan asked.typed (bits_at asked.head bytes) steps.reads

-- they stop at a plane
pub record ShowsPlane (options : Options) (asked : AskedTogether) (bytes : List ℕ) (why : Refusal) : Type 0 where
  pub outcome : Outcome
  pub steps : StepsEndIn options asked bytes outcome
  pub is : refusal_at outcome ≡ Some why

abbrev pub planes_step : Options → AskedTogether → List ℕ → Step (List ℕ)
planes_step options asked bytes = record { accepts = IsSessionReport options asked bytes; shows = ShowsPlane options asked bytes }

-- and then the steps over the file
abbrev pub report_step : line.Session → List ℕ → List ℕ → Step (List ℕ)
report_step words script bytes = then (session_step script bytes) (λ asked. planes_step words.options asked bytes)

-- what a told script shows, or with it a store that tells its bytes
abbrev pub SessionShows : line.Session → Option (List ℕ) → Option (List ℕ) → Refusal → Type 0
SessionShows words side held why =
    ((script : List ℕ) × (side ≡ Some script) × (queries_step script).shows why)
    ⊎ ((script bytes : List ℕ) × (side ≡ Some script) × (held ≡ Some bytes) × (report_step words script bytes).shows why)

-- it is accepted, with such a store, and this is the report
abbrev pub SessionAccepts : line.Session → Option (List ℕ) → Option (List ℕ) → List ℕ → Type 0
SessionAccepts words side held text =
    (script bytes : List ℕ) × (side ≡ Some script) × (held ≡ Some bytes) × (report_step words script bytes).accepts text

-- ---- what becomes of a `session`

-- the script was read, and the file opened
pub record HasOpened (side side' : SourceState) (planes opened : StoreState) (queries : List Scripted) (file : Opened) : Type 0 where
  pub read : ReadsScript side side' queries
  pub opens : Opens planes opened file
  pub same : HoldsSame planes opened

-- and there is a plan for its queries, which pass no limit
pub record BeginsSteps (words : line.Session) (side side' : SourceState) (planes opened : StoreState) : Type 0 where
  pub queries : List Scripted
  pub file : Opened
  pub has_opened : HasOpened side side' planes opened queries file
  pub typed : List TypedQuery
  pub accepted : (together_step queries file.head).accepts (asked_together queries typed file.head)
  pub plan : Plan
  pub planned : IsSessionPlan words.options plan

-- the bounds of each query are certain, of each table that has the planes that it read itself
abbrev pub AreAllCertain : Plan → List TypedQuery → Head → Planes → List ℕ → Type 0
AreAllCertain plan queries head bits reads =
    (n : ℕ) (query : TypedQuery) → slice_get queries n ≡ Some query →
    AreCertainOf query (frame_of head) bits (own_reads plan.near (frame_of head) bits (places_read queries reads) query (length reads))

-- the report of the queries. What is shown of each are the blocks of its report alone, which is that of each table that has the planes
-- that it read, as the table has whose file the bytes are
abbrev pub report_of : (words : line.Session) (side side' : SourceState) (planes opened : StoreState) →
    BeginsSteps words side side' planes opened → FileReport
report_of words side side' planes opened begun = record {
  head = begun.file.head;
  line = queries_lines (printed_forms begun.queries);
  shown = shown_steps begun.file.head begun.plan begun.typed;
  sure = AreAllCertain begun.plan begun.typed begun.file.head;
  of_tables = AllAreOfTables begun.plan begun.typed begun.file.head;
}

-- a `session` was done
pub record Sessions (words : line.Session) (side side' : SourceState) (planes planes' : StoreState) (out out' : SinkState) : Type 0 where
  pub opened : StoreState
  pub begun : BeginsSteps words side side' planes opened
  pub reported : IsReported (report_of words side side' planes opened begun) planes opened planes' out out'

-- why a `session` stops. Before its first step nothing was written; from then on, told or not, steps over some planes, and in a failed
-- write a part of the last
pub data SessionCause (words : line.Session) (side side' : SourceState) (planes planes' : StoreState) (out out' : SinkState)
    : Refusal → Type 0 where
  at_script : {why : Refusal} → ScriptCause side side' why → planes' ≡ planes → out' ≡ out →
      SessionCause words side side' planes planes' out out' why
  at_file : {why : Refusal} (queries : List Scripted) → ReadsScript side side' queries → StopsOpening planes planes' why → out' ≡ out →
      SessionCause words side side' planes planes' out out' why
  at_queries : {why : Refusal} (queries : List Scripted) (file : Opened) → HasOpened side side' planes planes' queries file →
      (together_step queries file.head).shows why → out' ≡ out → SessionCause words side side' planes planes' out out' why
  no_memory : (queries : List Scripted) (file : Opened) → HasOpened side side' planes planes' queries file → out' ≡ out →
      SessionCause words side side' planes planes' out out' NoMemory
  at_write : (opened : StoreState) (begun : BeginsSteps words side side' planes opened) →
      IsCutOff (report_of words side side' planes opened begun) planes opened planes' out out' →
      SessionCause words side side' planes planes' out out' WriteFault
  at_plane : {why : Refusal} (opened : StoreState) (begun : BeginsSteps words side side' planes opened) (fault : StepFault PlaneFault) →
      IsStopped (report_of words side side' planes opened begun) planes opened planes' out out' fault why →
      SessionCause words side side' planes planes' out out' why
