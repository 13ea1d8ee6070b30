-- What holds of the steps of a session, each the contract of a function that does nothing.
use Rattle.std.specs.Prelude.{◌≡◌, ℕ, ◌≤◌, Bool, List, [], length, map, take, slice_get, IsTrue}
use Rattle.std.specs.declared.option.Option.TheVariants.{Some}
use Rattle.std.specs.List.{AllByRecursion, sum}
use Rattle.daq_table.specs.Tables.{Cells, Frame, ends_at, frame_of, planes}
use Rattle.daq_table.specs.declared.table_head.Head.{Head}
use Rattle.multi_session.specs.Sessions.{columns_named, session_opened}
use Rattle.plane_schedule.specs.declared.policy.Plan.{Plan}
use Rattle.query_model.specs.Queries.{Query}
use Rattle.query_model.specs.Validity.{IsValid}
use Rattle.table_rounds.specs.Steps.{AreSteps, IsAfter, IsUnlisted, own_reads, places_read, plan_alone, steps_of}
use Rattle.table_rounds.specs.Headline.{AreCertain, AreOfLongs}
use Rattle.table_rounds.specs.Outcomes.{EndIn, Outcome}
use Rattle.table_rounds.specs.Rounds.{AreAllRounds, HasPlanes, HaveRows, Planes, counts_after, stage_after}
use Rattle.table_rounds.specs.Courses.{OfPlanes}

abbrev pub AreValid : Head → List Query → Type 0
AreValid head queries = AllByRecursion (IsValid head) queries

-- nothing read is before the first step of every plan
abbrev pub SessionsBegin : Type 0
SessionsBegin =
    (plan : Plan) (queries : List Query) (head : Head) (bits : Planes) →
    IsAfter plan queries head bits [] (session_opened queries head plan.near)

-- a query's own reads, step by step: asked alone with all of them as the list, it has just these rounds; after each step its reads are the
-- first of them, and it stands where it does alone after as many rounds
pub record AreAlone (plan : Plan) (query : Query) (frame : Frame) (bits : Planes) (own : ℕ → List ℕ) (steps : ℕ) : Type 0 where
  pub rounds : AreAllRounds (plan_alone plan (own steps)) query frame bits (own steps)
  pub front : (step : ℕ) → step ≤ steps → own step ≡ take (length (own step)) (own steps)
  pub stages : (step : ℕ) → step ≤ steps →
      stage_after query frame bits (own step) (length (own step)) ≡ stage_after query frame bits (own steps) (length (own step))

abbrev pub QueriesStandAlone : Type 0
QueriesStandAlone =
    (plan : Plan) (queries : List Query) (head : Head) (bits : Planes) (reads : List ℕ) (q : ℕ) (query : Query) →
    AreSteps plan queries head bits reads → slice_get queries q ≡ Some query →
    AreAlone plan query (frame_of head) bits (own_reads plan.near (frame_of head) bits (places_read queries reads) query) (length reads)

-- so its bounds are certain, of each table that has the planes that it read
abbrev pub SessionsAreCertain : Type 0
SessionsAreCertain =
    (plan : Plan) (queries : List Query) (head : Head) (bits : Planes) (reads : List ℕ) (q : ℕ) (query : Query) (cells : Cells) →
    AreValid head queries → AreOfLongs (frame_of head) → AreSteps plan queries head bits reads → slice_get queries q ≡ Some query →
    let own = own_reads plan.near (frame_of head) bits (places_read queries reads) query (length reads) in
    HasPlanes query (frame_of head) bits (counts_after query own (length own)) cells → AreCertain query (frame_of head) cells own

-- a session has no more steps than its columns have planes
abbrev pub SessionsAreShort : Type 0
SessionsAreShort =
    (plan : Plan) (queries : List Query) (head : Head) (bits : Planes) (reads : List ℕ) → AreSteps plan queries head bits reads →
    length reads ≤ sum (map (λ place. planes (ends_at (frame_of head) place)) (columns_named queries))

-- what holds of the planes that pass a test
abbrev pub Passes : (ℕ → ℕ → Bool) → OfPlanes
Passes test column plane = IsTrue (test column plane)

-- the steps of a plan are one: there is one list of columns that they read, and they come to one outcome
abbrev pub SessionsAreOne : Type 0
SessionsAreOne =
    (plan : Plan) (queries : List Query) (head : Head) (bits : Planes) (readable : ℕ → ℕ → Bool) (a b : List ℕ) (one other : Outcome) →
    EndIn (steps_of plan queries head bits) (Passes readable) a one → EndIn (steps_of plan queries head bits) (Passes readable) b other →
    (a ≡ b) × (one ≡ other)

-- steps go on to a last one, or to a plane that is refused or cannot be read
abbrev pub SessionsHaveAnEnd : Type 0
SessionsHaveAnEnd =
    (plan : Plan) (queries : List Query) (head : Head) (bits : Planes) (readable : ℕ → ℕ → Bool) → AreValid head queries →
    HaveRows (frame_of head) bits → IsUnlisted plan.policy →
    (reads : List ℕ) × (outcome : Outcome) × EndIn (steps_of plan queries head bits) (Passes readable) reads outcome
