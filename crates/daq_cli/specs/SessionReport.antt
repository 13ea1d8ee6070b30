-- The text of the report of a session: its queries, for each step the blocks of the queries to which it went, and why its steps ended.
use Rattle.std.specs.Prelude.{◌≡◌, ℕ, suc, ◌+◌, List, [], ◌∷◌, ◌++◌, length, slice_get, slice_index, codes, decimal, if◌then◌else◌}
use Rattle.std.specs.declared.option.Option.{Option}
use Rattle.std.specs.declared.option.Option.TheVariants.{Some, None}
use Rattle.daq_table.specs.Tables.{frame_of}
use Rattle.daq_table.specs.declared.table_head.Head.{Head}
use Rattle.multi_session.specs.Sessions.{own_column}
use Rattle.plane_schedule.specs.declared.policy.Plan.{Plan}
use Rattle.query_model.specs.Queries.{Query}
use Rattle.table_rounds.specs.Rounds.{AreAllRounds, Planes}
use Rattle.table_rounds.specs.Steps.{AreSteps, is_moved, own_reads, places_read, plan_alone, steps_of}
use Rattle.daq_cli.specs.Report.{Shown, block_of, blocks_below, rounds_text, shown_by}

-- where these are its columns: the query's number of the one that the last step read, if a step was done
abbrev pub own_of : List ℕ → Query → Option ℕ → Option ℕ
own_of columns query None = None
own_of columns query (Some column) = own_column query (slice_index columns column)

-- the texts of these, numbered from this number on
abbrev pub numbered : {A : Type 0} → (ℕ → A → List ℕ) → ℕ → List A → List ℕ
numbered text number [] = []
numbered text number (x ∷ xs) = text number x ++ numbered text (number + 1) xs

-- ---- the queries

-- the printed form of a query, with its number
abbrev pub numbered_line : ℕ → List ℕ → List ℕ
numbered_line number sql = decimal number ++ (codes " " ++ (sql ++ codes "\n"))

-- how many there are
abbrev pub count_line : ℕ → List ℕ
count_line count = codes "queries " ++ (decimal count ++ codes "\n")

-- a report begins with the number of the queries that have these printed forms, and with each of them
abbrev pub queries_lines : List (List ℕ) → List ℕ
queries_lines sqls = count_line (length sqls) ++ numbered numbered_line 1 sqls

-- ---- the steps

-- the line before the block of a query at a step
abbrev pub at_line : ℕ → ℕ → List ℕ
at_line step number = codes "at " ++ (decimal step ++ (codes " query " ++ (decimal number ++ codes "\n")))

-- the block of a query alone after its own reads in so many steps
abbrev pub own_block : Head → Plan → Planes → List ℕ → Query → ℕ → List ℕ
own_block head plan bits places query step =
    let own = own_reads plan.near (frame_of head) bits places query step in block_of head plan query bits own (length own)

-- what is shown of a query, with this number, after so many steps: this block, where the last of them went to it
abbrev pub block_at : Head → Plan → Planes → List ℕ → ℕ → ℕ → Query → List ℕ
block_at head plan bits places step number query =
    if is_moved plan.near (frame_of head) bits places query step
    then at_line step number ++ own_block head plan bits places query step else []

-- the blocks of the queries after so many steps, which read these columns of the session
abbrev pub blocks_at : Head → Plan → List Query → Planes → List ℕ → ℕ → List ℕ
blocks_at head plan queries bits reads step = numbered (block_at head plan bits (places_read queries reads) step) 1 queries

-- the steps of a session, shown by their blocks
abbrev pub shown_steps : Head → Plan → List Query → Planes → Shown
shown_steps head plan queries = shown_by (steps_of plan queries head) (blocks_at head plan queries)

-- the whole report of the queries with those printed forms, all of whose steps by the plan read these columns
abbrev pub session_report : List (List ℕ) → Head → Plan → List Query → Planes → List ℕ → List ℕ
session_report sqls head plan queries bits reads = queries_lines sqls ++ rounds_text (shown_steps head plan queries bits) reads

-- ---- a query alone

-- what is shown of a query after so many steps: its block alone, where the last of them went to it
abbrev pub shown_of : Head → Plan → Planes → Query → List ℕ → ℕ → List ℕ
shown_of head plan bits query places step =
    if is_moved plan.near (frame_of head) bits places query step then own_block head plan bits places query step else []

-- those of these steps are the blocks of the query alone, all of whose rounds by the list of its own reads these are
pub record IsShownAlone (head : Head) (plan : Plan) (bits : Planes) (places : List ℕ) (query : Query) (steps : ℕ) (own : List ℕ)
    : Type 0 where
  pub rounds : AreAllRounds (plan_alone plan own) query (frame_of head) bits own
  pub blocks : blocks_below (shown_of head plan bits query) places (suc steps)
      ≡ blocks_below (block_of head (plan_alone plan own) query bits) own (suc (length own))

-- so it is with each query of a session
abbrev pub QueriesAreShownAlone : Type 0
QueriesAreShownAlone =
    (plan : Plan) (queries : List Query) (head : Head) (bits : Planes) (reads : List ℕ) (q : ℕ) (query : Query) →
    AreSteps plan queries head bits reads → slice_get queries q ≡ Some query →
    let places = places_read queries reads in
    IsShownAlone head plan bits places query (length reads) (own_reads plan.near (frame_of head) bits places query (length reads))
