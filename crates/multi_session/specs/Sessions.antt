-- A session: several queries over the planes of one table. A plane that is read goes to each query that is not finished and reads its
-- column. Columns of the session are numbered in the order in which its queries name them first; a place is a column's number in the table.
use Rattle.plane_schedule.specs.declared.policy.Nearness.{Nearness}
use Rattle.std.specs.Prelude.{◌≡◌, ℕ, ◌+◌, ◌-◌, ◌<◌, ◌≤◌, ◌==◌, ◌||◌, max, Bool, true, false, List, [], ◌∷◌, ◌++◌}
use Rattle.std.specs.Prelude.{map, length, fold, replicate, position, slice_get, slice_index, sum_by, is_some, if◌then◌else◌}
use Rattle.std.specs.declared.option.Option.{Option}
use Rattle.std.specs.declared.option.Option.TheVariants.{Some, None}
use Rattle.std.specs.List.{flat_map}
use Rattle.std.specs.Option.{option_map_or}
use Rattle.daq_table.specs.declared.table_head.Head.{Head}
use Rattle.daq_table.specs.Tables.{ends_at, planes}
use Rattle.kleene_filter.specs.Filters.{stands_in}
use Rattle.plane_schedule.specs.Choices.{IsSound, Outlook}
use Rattle.plane_schedule.specs.declared.progress.Progress.{Progress}
use Rattle.plane_schedule.specs.declared.progress.Role.{Role}
use Rattle.plane_schedule.specs.declared.progress.Role.TheVariants.{Filter, Group, Value}
use Rattle.query_model.specs.Knowledge.{known_at}
use Rattle.query_model.specs.Queries.{Query}
use Rattle.round_engine.specs.Narrowness.{is_narrow}
use Rattle.round_engine.specs.Progresses.{gives_values, possible_rows, role_of, taken_of, unknown_rows}
use Rattle.round_engine.specs.Stages.{Stage, opened, stepped}

-- how far apart the ends of a narrow bound may be, the rows of the table, the places of the session's columns, the stage of each query,
-- whether the last step went to it, and how many steps were done: one plane is read in each
pub record Session : Type 0 where
  pub near : Nearness
  pub rows : ℕ
  pub columns : List ℕ
  pub stages : List Stage
  pub moved : List Bool
  pub steps : ℕ

-- ---- columns

abbrev pub with_column : List ℕ → ℕ → List ℕ
with_column columns place = if stands_in columns place then columns else columns ++ place ∷ []

-- the places of the columns that the queries name, in the order in which they are named first
abbrev pub columns_named : List Query → List ℕ
columns_named queries = fold with_column [] (flat_map (λ query. query.columns) queries)

-- the query's number of a column of the table, if it reads it
abbrev pub own_column : Query → ℕ → Option ℕ
own_column query place = position (λ column. column == place) query.columns

-- ---- steps

-- the query's number of a column of the table whose next plane it awaits: none where the query does not read it, or is finished. It is
-- finished from its first narrow round on
abbrev pub awaited : Nearness → ℕ → Stage → Option ℕ
awaited near place stage = if is_narrow near stage then None else own_column stage.query place

-- the query after a step: it takes the plane that it awaits
abbrev pub followed : Nearness → ℕ → List Bool → Stage → Stage
followed near place bits stage = option_map_or (λ c. stepped stage c bits) (awaited near place stage) stage

-- nothing is read
abbrev pub session_opened : List Query → Head → Nearness → Session
session_opened queries head near = record {
  near = near;
  rows = head.rows;
  columns = columns_named queries;
  stages = map (λ query. opened query head) queries;
  moved = replicate (length queries) true;
  steps = 0;
}

-- after the next plane of a column of the session, with these bits
abbrev pub session_stepped : Session → ℕ → List Bool → Session
session_stepped s column bits = record {
  near = s.near;
  rows = s.rows;
  columns = s.columns;
  stages = map (followed s.near (slice_index s.columns column) bits) s.stages;
  moved = map (λ stage. is_some (awaited s.near (slice_index s.columns column) stage)) s.stages;
  steps = s.steps + 1;
}

-- the stage is that of a query of the session, which awaits the next plane of this column as that of its own
pub record Awaits (s : Session) (column : ℕ) (stage : Stage) (own : ℕ) : Type 0 where
  pub query : ℕ
  pub there : slice_get s.stages query ≡ Some stage
  pub reads : awaited s.near (slice_index s.columns column) stage ≡ Some own

-- ---- how far a session has come

abbrev pub unread_of : Stage → ℕ → ℕ
unread_of stage c = planes (ends_at stage.frame c) - (known_at stage.known c).read

-- the unread planes of a column of the table, by the first query that awaits them; none where no query does
abbrev pub unread_in : Nearness → ℕ → List Stage → ℕ
unread_in near place [] = 0
unread_in near place (stage ∷ stages) = option_map_or (unread_of stage) (awaited near place stage) (unread_in near place stages)

-- what a column is read for: the condition of a query, else the groups of one, else values
abbrev pub first_role : Role → Role → Role
first_role Filter other = Filter
first_role Group Filter = Filter
first_role Group Group = Group
first_role Group Value = Group
first_role Value other = other

-- by the queries that await its planes
abbrev pub role_for : Nearness → ℕ → Stage → Role
role_for near place stage = option_map_or (role_of stage.query) (awaited near place stage) Value

abbrev pub role_in : Nearness → ℕ → List Stage → Role
role_in near place stages = fold first_role Value (map (role_for near place) stages)

-- how many of its planes these queries have taken, which is the same for each
abbrev pub taken_for : Nearness → ℕ → Stage → ℕ
taken_for near place stage = option_map_or (taken_of stage) (awaited near place stage) 0

abbrev pub taken_in : Nearness → ℕ → List Stage → ℕ
taken_in near place stages = fold max 0 (map (taken_for near place) stages)

-- whether it gives values to one of them
abbrev pub gives_for : Nearness → ℕ → Stage → Bool
gives_for near place stage = option_map_or (gives_values stage.query) (awaited near place stage) false

abbrev pub gives_in : Nearness → ℕ → List Stage → Bool
gives_in near place stages = fold ◌||◌ false (map (gives_for near place) stages)

-- a number of rows of each query that is not finished, all added
abbrev pub rows_in : (Stage → ℕ) → Nearness → List Stage → ℕ
rows_in count near stages = sum_by (λ stage. if is_narrow near stage then 0 else count stage) stages

-- at how many rows the condition of a query is unknown, of those that are not finished
abbrev pub unknown_in : Nearness → List Stage → ℕ
unknown_in near stages = rows_in unknown_rows near stages

-- and at how many it may hold
abbrev pub possible_in : Nearness → List Stage → ℕ
possible_in near stages = rows_in possible_rows near stages

-- what the queries do with the columns of the table at these places, of so many of them
pub record TellsColumns (near : Nearness) (places : List ℕ) (stages : List Stage) (count : ℕ) (unread taken : List ℕ) (roles : List Role)
    (gives : List Bool) : Type 0 where
  pub numbers : length unread ≡ 16
  pub few : (c : ℕ) → slice_index unread c ≤ 65
  pub counts : (c : ℕ) → c < count → slice_index unread c ≡ unread_in near (slice_index places c) stages
  pub numbers_taken : length taken ≡ 16
  pub few_taken : (c : ℕ) → slice_index taken c ≤ 65
  pub counts_taken : (c : ℕ) → c < count → slice_index taken c ≡ taken_in near (slice_index places c) stages
  pub names : length roles ≡ 16
  pub read_for : (c : ℕ) → c < count → slice_get roles c ≡ Some (role_in near (slice_index places c) stages)
  pub flags : length gives ≡ 16
  pub gives_some : (c : ℕ) → c < count → slice_get gives c ≡ Some (gives_in near (slice_index places c) stages)

-- what a policy looks at
abbrev pub session_outlook : Session → Outlook
session_outlook s = record {
  columns = length s.columns;
  unread = λ c. unread_in s.near (slice_index s.columns c) s.stages;
  taken = λ c. taken_in s.near (slice_index s.columns c) s.stages;
  role = λ c. Some (role_in s.near (slice_index s.columns c) s.stages);
  gives = λ c. Some (gives_in s.near (slice_index s.columns c) s.stages);
  unknown = unknown_in s.near s.stages;
  possible = possible_in s.near s.stages;
  read = s.steps;
}

-- a progress tells a policy what the session does
pub record IsSessionProgress (s : Session) (p : Progress) : Type 0 where
  pub sound : IsSound p
  pub columns : p.columns ≡ length s.columns
  pub unread : (c : ℕ) → c < length s.columns → slice_index p.unread c ≡ unread_in s.near (slice_index s.columns c) s.stages
  pub taken : (c : ℕ) → c < length s.columns → slice_index p.read c ≡ taken_in s.near (slice_index s.columns c) s.stages
  pub role : (c : ℕ) → c < length s.columns → slice_get p.role c ≡ Some (role_in s.near (slice_index s.columns c) s.stages)
  pub gives : (c : ℕ) → c < length s.columns → slice_get p.gives_values c ≡ Some (gives_in s.near (slice_index s.columns c) s.stages)
  pub unknown : p.unknown ≡ unknown_in s.near s.stages
  pub possible : p.possible ≡ possible_in s.near s.stages
  pub done : p.done ≡ s.steps
