-- A question: a query over a table, with its options. What it shows where it is refused, and its report where it is answered.
use Rattle.std.specs.Prelude.{◌≡◌, ◌≢◌, ◌⊎◌, ℕ, List}
use Rattle.command_line.specs.Commands.{Options, ReadOrder, fixed, reads}
use Rattle.daq_table.specs.Tables.{Contents, frame_of}
use Rattle.daq_table.specs.declared.table_head.Head.{Head}
use Rattle.outer_world.specs.Device.{SinkState}
use Rattle.outer_world.specs.Whole.{Writes}
use Rattle.plane_schedule.specs.declared.policy.Extras.{Extras}
use Rattle.plane_schedule.specs.declared.policy.Nearness.{Nearness}
use Rattle.plane_schedule.specs.declared.policy.Plan.{Plan}
use Rattle.plane_schedule.specs.declared.policy.Policy.{Policy}
use Rattle.plane_schedule.specs.declared.policy.Policy.TheVariants as p
use Rattle.plane_reads.specs.declared.fault.ReadsFault.{ReadsFault}
use Rattle.plane_reads.specs.declared.fault.ReadsFault.TheVariants as r
use Rattle.plane_reads.specs.Reads as lists
use Rattle.plane_reads.specs.Reads.{AreAllReads}
use Rattle.query_model.specs.Knowledge.{plane_of}
use Rattle.query_model.specs.declared.query.TypedQuery.{TypedQuery}
use Rattle.sql_text.specs.Answer.{IsFault, IsText}
use Rattle.sql_print.specs.Printed.{printed}
use Rattle.sql_text.specs.Tree as sql
use Rattle.sql_text.specs.declared.fault.SqlFault.{SqlFault}
use Rattle.sql_text.specs.declared.fault.SqlFault.TheVariants as q
use Rattle.sql_typing.specs.Refusals as typing
use Rattle.sql_typing.specs.Refusals.{IsTyped}
use Rattle.sql_typing.specs.declared.fault.TypeFault.{TypeFault}
use Rattle.sql_typing.specs.declared.fault.TypeFault.TheVariants as y
use Rattle.table_rounds.specs.Headline.{AreCertain}
use Rattle.table_rounds.specs.Rounds.{AreAllRounds, Planes}
use Rattle.daq_cli.specs.Report.{WritesRounds, report}
use Rattle.daq_cli.specs.Steps.{Step}
use Rattle.daq_cli.specs.Worlds.{Extent, partly}
use Rattle.daq_cli.specs.declared.refusal.Refusal.{Refusal}
use Rattle.daq_cli.specs.declared.refusal.Refusal.TheVariants.{Query, Typing, Reads, WriteFault, NoMemory}

pub record Question : Type 0 where
  pub query : sql.Query
  pub options : Options
  pub table : Contents

abbrev pub question_of : sql.Query → Options → Contents → Question
question_of query options table = record { query = query; options = options; table = table }

-- what is asked of a table, of which the head alone is known
pub record Asked : Type 0 where
  pub query : sql.Query
  pub options : Options
  pub head : Head

abbrev pub asked_with : sql.Query → Options → Head → Asked
asked_with query options head = record { query = query; options = options; head = head }

abbrev pub asked_of : Question → Asked
asked_of question = asked_with question.query question.options question.table.head

-- ---- the SQL

-- the text is no query
pub record ShowsText (text : List ℕ) (why : Refusal) : Type 0 where
  pub fault : SqlFault
  pub shown : fault ≢ q.NoMemory
  pub is : why ≡ Query fault
  pub faulty : IsFault text fault

abbrev pub sql_step : List ℕ → Step sql.Query
sql_step text = record { accepts = IsText text; shows = ShowsText text }

-- ---- the question

-- the policy of this order, where the query is typed so on tables with the head
abbrev pub IsPolicyOf : ReadOrder → TypedQuery → Head → Policy → Type 0
IsPolicyOf (fixed named) typed head policy = policy ≡ p.By named
IsPolicyOf (reads names) typed head policy = (list : List ℕ) × (policy ≡ p.Listed list) × AreAllReads names typed head list

-- the order is a list of names, which is refused
pub record RefusesOrder (order : ReadOrder) (typed : TypedQuery) (head : Head) (fault : ReadsFault) : Type 0 where
  pub names : List ℕ
  pub listed : order ≡ reads names
  pub faulty : lists.Refuses names typed head fault

-- the lines that the options add to a block
abbrev pub extras_of : Options → Extras
extras_of options = record { clip = options.clip; exact = options.exact }

-- when a round is narrow by the options
abbrev pub nearness_of : Options → Nearness
nearness_of options = record { width = options.width; keys = options.keys }

-- the plan of the options
pub record IsPlanOf (options : Options) (typed : TypedQuery) (head : Head) (plan : Plan) : Type 0 where
  pub policy : IsPolicyOf options.order typed head plan.policy
  pub near : plan.near ≡ nearness_of options
  pub most : plan.most ≡ options.rounds
  pub listing : plan.listing ≡ options.listing
  pub extras : plan.extras ≡ extras_of options

-- the query is typed so, and there is such a plan of the options
pub record IsPlanned (asked : Asked) (typed : TypedQuery) (plan : Plan) : Type 0 where
  pub is_typed : IsTyped asked.query asked.head typed
  pub planned : IsPlanOf asked.options typed asked.head plan

-- it cannot be typed
pub record ShowsTyping (asked : Asked) (why : Refusal) : Type 0 where
  pub fault : TypeFault
  pub shown : fault ≢ y.NoMemory
  pub is : why ≡ Typing fault
  pub faulty : typing.Refuses asked.query asked.head fault

-- the list of reads names what is no column of the query, or a column more often than it has planes
pub record ShowsReads (asked : Asked) (why : Refusal) : Type 0 where
  pub typed : TypedQuery
  pub is_typed : IsTyped asked.query asked.head typed
  pub fault : ReadsFault
  pub shown : fault ≢ r.NoMemory
  pub is : why ≡ Reads fault
  pub faulty : RefusesOrder asked.options.order typed asked.head fault

-- its typing comes first, then its reads
abbrev pub ShowsQuestion : Asked → Refusal → Type 0
ShowsQuestion asked why = ShowsTyping asked why ⊎ ShowsReads asked why

-- it is refused so, or memory ran out
abbrev pub StopsPlanning : Asked → Refusal → Type 0
StopsPlanning asked why = ShowsQuestion asked why ⊎ (why ≡ NoMemory)

-- it has a typing, and a plan
pub record IsAnswerable (asked : Asked) : Type 0 where
  pub typed : TypedQuery
  pub plan : Plan
  pub planned : IsPlanned asked typed plan

abbrev pub question_step : sql.Query → Options → Contents → Step Question
question_step query options table =
    let asked = question_of query options table in
    record { accepts = λ question. (question ≡ asked) × IsAnswerable (asked_of asked); shows = ShowsQuestion (asked_of asked) }

-- ---- the answer

-- the planes of the table
abbrev pub planes_of : Contents → Planes
planes_of table = plane_of (frame_of table.head) table.cells

-- the report of all rounds of the plan was written, whole or in part: a block for each. Each interval in it is certain
pub record ReportsRounds (query : sql.Query) (typed : TypedQuery) (plan : Plan) (table : Contents) (extent : Extent)
    (out out' : SinkState) : Type 0 where
  pub written : WritesRounds (report (printed query) table.head plan typed (planes_of table))
      table.head plan typed (planes_of table) extent out out'
  pub headline : AreCertain typed (frame_of table.head) table.cells written.reads

-- a report of the question: the text of all rounds of its plan. Each interval in it is certain
pub record IsReport (question : Question) (text : List ℕ) : Type 0 where
  pub typed : TypedQuery
  pub plan : Plan
  pub planned : IsPlanned (asked_of question) typed plan
  pub reads : List ℕ
  pub rounds : AreAllRounds plan typed (frame_of question.table.head) (planes_of question.table) reads
  pub headline : AreCertain typed (frame_of question.table.head) question.table.cells reads
  pub is : text ≡ report (printed question.query) question.table.head plan typed (planes_of question.table) reads

-- the report of the question, which has no other, was written, whole or in part
pub record Reports (question : Question) (extent : Extent) (out out' : SinkState) : Type 0 where
  pub text : List ℕ
  pub is_report : IsReport question text
  pub only : (other : List ℕ) → IsReport question other → other ≡ text
  pub written : Writes extent out out' text

-- why the report of a question is not written whole; but for a failed write nothing was written
pub data QuestionCause (question : Question) (out out' : SinkState) : Refusal → Type 0 where
  step : {why : Refusal} → ShowsQuestion (asked_of question) why → out' ≡ out → QuestionCause question out out' why
  write_fault : Reports question partly out out' → QuestionCause question out out' WriteFault
  no_memory : out' ≡ out → QuestionCause question out out' NoMemory
