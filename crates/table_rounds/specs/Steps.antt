-- The steps of a session over the planes of a table: what each of its queries reads and where it stands, and which step is the last.
-- A place is a column's number in the table. The session numbers its columns by itself, and each query its own. A step reads the next plane
-- of a column for all queries that await it.
use Rattle.plane_schedule.specs.declared.policy.Nearness.{Nearness}
use Rattle.std.specs.Prelude.{◌≡◌, ℕ, zero, suc, Bool, true, List, [], ◌∷◌, ◌++◌}
use Rattle.std.specs.Prelude.{map, length, slice_get, slice_index, sum_by, is_some, IsFalse}
use Rattle.std.specs.declared.option.Option.{Option}
use Rattle.std.specs.declared.option.Option.TheVariants.{Some, None}
use Rattle.std.specs.List.{AllByRecursion, list_all}
use Rattle.std.specs.Option.{option_map_or}
use Rattle.daq_table.specs.Tables.{Frame, frame_of}
use Rattle.daq_table.specs.declared.table_head.Head.{Head}
use Rattle.multi_session.specs.Sessions.{Awaits, Session, awaited, columns_named, session_outlook}
use Rattle.plane_schedule.specs.Plans.{ending_of}
use Rattle.plane_schedule.specs.declared.policy.Ending.{Ending}
use Rattle.plane_schedule.specs.declared.policy.Plan.{Plan}
use Rattle.plane_schedule.specs.declared.policy.Policy.{Policy}
use Rattle.plane_schedule.specs.declared.policy.Policy.TheVariants.{By, Listed}
use Rattle.query_model.specs.Knowledge.{IsKnowledge, known_at}
use Rattle.query_model.specs.Queries.{Query}
use Rattle.query_model.specs.Validity.{FitsHead}
use Rattle.round_engine.specs.Narrowness.{is_narrow}
use Rattle.round_engine.specs.Stages.{IsFirstOver, Stage}
use Rattle.table_rounds.specs.Courses.{AreAllReads, AreReads, Course, number_after}
use Rattle.table_rounds.specs.Rounds.{Planes, stage_after, unread_planes}

-- ---- a query of a session

-- what a query reads with the plane of the column at this place: its own column, if it awaits it
abbrev pub own_read : Nearness → ℕ → Stage → List ℕ
own_read near place stage = option_map_or (λ c. c ∷ []) (awaited near place stage) []

-- the query's own reads among the first so many steps: those of its columns up to its first narrow round. It would read these if it were
-- asked alone, so its blocks are said without the other queries
abbrev pub own_reads : Nearness → Frame → Planes → List ℕ → Query → ℕ → List ℕ
own_reads near frame bits places query zero = []
own_reads near frame bits places query (suc step) =
    let before = own_reads near frame bits places query step in
    before ++ own_read near (slice_index places step) (stage_after query frame bits before (length before))

-- where the query stands after so many steps: where it would alone, after its own reads
abbrev pub stage_in : Nearness → Frame → Planes → List ℕ → Query → ℕ → Stage
stage_in near frame bits places query step =
    let own = own_reads near frame bits places query step in stage_after query frame bits own (length own)

-- whether the last of so many steps went to the query: before the first step, it is so of each
abbrev pub is_moved : Nearness → Frame → Planes → List ℕ → Query → ℕ → Bool
is_moved near frame bits places query zero = true
is_moved near frame bits places query (suc step) =
    is_some (awaited near (slice_index places step) (stage_in near frame bits places query step))

-- the plan by which the query would be asked alone: its own reads are the list
abbrev pub plan_alone : Plan → List ℕ → Plan
plan_alone plan own =
    record { policy = Listed own; near = plan.near; most = None; listing = plan.listing; extras = plan.extras }

-- ---- a session

-- the places of these columns of the session
abbrev pub places_read : List Query → List ℕ → List ℕ
places_read queries reads = map (slice_index (columns_named queries)) reads

-- the session after so many steps, which read these of its columns
abbrev pub session_after : Nearness → List Query → Head → Planes → List ℕ → ℕ → Session
session_after near queries head bits reads steps =
    let places = places_read queries reads in
    record {
      near = near;
      rows = head.rows;
      columns = columns_named queries;
      stages = map (λ query. stage_in near (frame_of head) bits places query steps) queries;
      moved = map (λ query. is_moved near (frame_of head) bits places query steps) queries;
      steps = steps;
    }

-- why the session ends here, if it does: it is narrow where each of its queries is
abbrev pub ending_in : Plan → Session → Option Ending
ending_in plan s = ending_of plan (list_all (is_narrow s.near) s.stages) s.steps

-- the query is not finished
pub record IsWide (s : Session) (query : ℕ) : Type 0 where
  pub stage : Stage
  pub there : slice_get s.stages query ≡ Some stage
  pub wide : IsFalse (is_narrow s.near stage)

-- no list of columns: a session reads by a policy
abbrev pub IsUnlisted : Policy → Type 0
IsUnlisted (By fixed) = Unit {0}
IsUnlisted (Listed list) = ⊥

-- the unread planes of all queries, each of a query counted by itself
abbrev pub planes_left : Session → ℕ
planes_left s = sum_by unread_planes s.stages

-- what is known is legal: each prefix is that of some cell
abbrev pub IsLegalSession : Session → Type 0
IsLegalSession s = AllByRecursion (λ stage. IsKnowledge stage.frame stage.known) s.stages

-- the table's column that a column of the session is
abbrev pub place_of : List Query → ℕ → ℕ
place_of queries column = slice_index (columns_named queries) column

-- the course of the steps. A plane is refused at a row for each query that awaits it
abbrev pub steps_of : Plan → List Query → Head → Planes → Course
steps_of plan queries head bits = record {
  policy = plan.policy;
  ending = λ reads step. ending_in plan (session_after plan.near queries head bits reads step);
  outlook = λ reads step. session_outlook (session_after plan.near queries head bits reads step);
  legal = λ reads step. IsLegalSession (session_after plan.near queries head bits reads step);
  place = place_of queries;
  over = λ reads column row. (stage : Stage) (own : ℕ) →
      Awaits (session_after plan.near queries head bits reads (length reads)) column stage own →
      IsFirstOver stage own (bits (place_of queries column) (number_after reads (length reads) column)) row;
}

-- the steps so far read these columns, and all do
abbrev pub AreSteps : Plan → List Query → Head → Planes → List ℕ → Type 0
AreSteps plan queries head bits = AreReads (steps_of plan queries head bits)

abbrev pub AreAllSteps : Plan → List Query → Head → Planes → List ℕ → Type 0
AreAllSteps plan queries head bits = AreAllReads (steps_of plan queries head bits)

-- after steps that read these columns, in order, the session is this
pub record IsAfter (plan : Plan) (queries : List Query) (head : Head) (bits : Planes) (reads : List ℕ) (s : Session) : Type 0 where
  pub rounds : AreSteps plan queries head bits reads
  pub is : s ≡ session_after plan.near queries head bits reads (length reads)

-- ---- a session over tables with a head

-- its queries
abbrev pub queries_of : Session → List Query
queries_of s = map (λ stage. stage.query) s.stages

-- they are over tables with that head, and its columns are those that they name
pub record FitsSession (s : Session) (head : Head) : Type 0 where
  pub rows : s.rows ≡ head.rows
  pub columns : s.columns ≡ columns_named (queries_of s)
  pub stages : AllByRecursion (λ stage. FitsHead stage.query stage.frame head) s.stages

-- how many planes of a column of the table were read, by the first query that awaits the next
abbrev pub read_in : Nearness → ℕ → List Stage → ℕ
read_in near place [] = 0
read_in near place (stage ∷ stages) =
    option_map_or (λ own. (known_at stage.known own).read) (awaited near place stage) (read_in near place stages)

-- the number of the next plane of a column of the session
abbrev pub next_number : Session → ℕ → ℕ
next_number s column = read_in s.near (slice_index s.columns column) s.stages
