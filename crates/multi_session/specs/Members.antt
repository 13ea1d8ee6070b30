-- What a session keeps: what is known of its columns, once for all queries, and of each query how far it has followed them.
use Rattle.plane_schedule.specs.declared.policy.Nearness.{Nearness}
use Rattle.std.specs.Prelude.{◌≡◌, ◌⊎◌, ℕ, ◌+◌, ◌-◌, ◌/◌, ◌^◌, ◌<◌, ◌≤◌, ◌==◌, Bool}
use Rattle.std.specs.Prelude.{List, length, map, slice_index, slice_index_or, sum_by, is_some, IsTrue, IsFalse, if◌then◌else◌}
use Rattle.std.specs.List.{All}
use Rattle.std.specs.Simd.Lanes.{zip2}
use Rattle.daq_table.specs.declared.table_head.Head.{Head}
use Rattle.daq_table.specs.Tables.{ends_at, frame_of, planes}
use Rattle.known_column.specs.Columns.{KnownColumn}
use Rattle.known_column.specs.KnownTables.{IsKnownTable, KnownTable, frame_at, lent_table, read_column, unread_table}
use Rattle.query_model.specs.Knowledge.{CanTake, ColumnKnowledge, known_at}
use Rattle.query_model.specs.Queries.{Query}
use Rattle.query_model.specs.Validity.{IsValid, no_repeats}
use Rattle.round_engine.specs.Engines.{stage_of}
use Rattle.round_engine.specs.Followers.{Follows}
use Rattle.round_engine.specs.Narrowness.{is_narrow}
use Rattle.round_engine.specs.Progresses.{planes_read}
use Rattle.round_engine.specs.Stages.{IsOpenStage, Stage, opened}
use Rattle.multi_session.specs.declared.member.Member.{Member}
use Rattle.multi_session.specs.Sessions.{Session, awaited, followed}

-- ---- columns

-- each place stands once
abbrev pub StandOnce : List ℕ → Type 0
StandOnce places = (i j : ℕ) → i < length places → j < length places → slice_index places i ≡ slice_index places j → i ≡ j

-- the place stands there
abbrev pub Stands : List ℕ → ℕ → Type 0
Stands places place = (i : ℕ) × (i < length places) × (slice_index places i ≡ place)

-- the columns at these places of a table, what is declared and what is known of them
pub record AreColumns (places : List ℕ) (table : KnownTable) : Type 0 where
  pub count : length table.frame.columns ≡ length places
  pub once : StandOnce places
  pub known : IsKnownTable table

-- nothing is read of the columns at these places of tables with that head
abbrev pub AreUnread : Head → List ℕ → KnownTable → Type 0
AreUnread head places table = table ≡ unread_table (frame_at (frame_of head) places)

-- what was known of a column after its first planes, so many: the first digits of each prefix
abbrev pub earlier : ℕ → ColumnKnowledge → ColumnKnowledge
earlier count column = record { read = count; prefixes = map (λ prefix. prefix / 2 ^ (column.read - count)) column.prefixes }

-- the columns with these numbers, each after so many of its planes
abbrev pub earlier_table : KnownTable → List ℕ → List ℕ → KnownTable
earlier_table table numbers counts = record {
  frame = frame_at table.frame numbers;
  known = zip2 (λ number count. earlier count (known_at table.known number)) numbers counts;
}

-- all their planes that were read are counted
abbrev pub CountAll : KnownTable → List ℕ → List ℕ → Type 0
CountAll table numbers counts = (c : ℕ) → c < length numbers → slice_index counts c ≡ (known_at table.known (slice_index numbers c)).read

-- ---- members

-- where a query stands: of each of its columns it took so many planes
abbrev pub stage_in : KnownTable → Member → Stage
stage_in table member = stage_of member.follower.query (earlier_table table member.numbers.items member.counts.items)

abbrev pub stages_of : KnownTable → List Member → List Stage
stages_of table members = map (stage_in table) members

-- the query took all planes of its columns that were read, and what is kept of it is that of what is known of them
pub record IsAbreast (table : KnownTable) (member : Member) : Type 0 where
  pub inside : All (λ number. number < length table.frame.columns) member.numbers.items
  pub counts : length member.counts.items ≡ length member.numbers.items
  pub all : CountAll table member.numbers.items member.counts.items
  pub follows : Follows (lent_table table member.numbers.items) member.follower

-- it goes on, or the last step went to it
abbrev pub IsCurrent : ℕ → Member → Type 0
IsCurrent steps member = IsFalse member.finished ⊎ (member.moved ≡ steps)

-- what is declared and known of a query's column
abbrev pub column_of : Stage → ℕ → KnownColumn
column_of stage c = record { ends = ends_at stage.frame c; known = known_at stage.known c }

-- a column of a query has at most a plane for each of 64 digits, and one that tells null
abbrev pub HasFewPlanes : Stage → Type 0
HasFewPlanes stage = (c : ℕ) → c < length stage.frame.columns → planes (ends_at stage.frame c) ≤ 65

-- a query after so many steps of a session of the columns at these places
pub record IsMember (near : Nearness) (steps : ℕ) (places : List ℕ) (table : KnownTable) (member : Member) : Type 0 where
  pub inside : All (λ number. number < length places) member.numbers.items
  pub named : member.follower.query.columns ≡ map (slice_index places) member.numbers.items
  pub distinct : IsTrue (no_repeats member.follower.query.columns)
  pub counts : length member.counts.items ≡ length member.numbers.items
  pub taken : (c : ℕ) → c < length member.numbers.items →
      slice_index member.counts.items c ≤ (known_at table.known (slice_index member.numbers.items c)).read
  pub open_stage : IsOpenStage (stage_in table member)
  pub few : HasFewPlanes (stage_in table member)
  pub finished : member.finished ≡ is_narrow near (stage_in table member)
  pub past : member.moved ≤ steps
  pub abreast : IsCurrent steps member → IsAbreast table member

-- the same, where it was found whether it is finished
abbrev pub judged : Nearness → KnownTable → Member → Member
judged near table member = record {
  follower = member.follower;
  numbers = member.numbers;
  counts = member.counts;
  finished = is_narrow near (stage_in table member);
  moved = member.moved;
}

-- the queries of a session, after some steps
abbrev pub AreSomeMembers : Nearness → List ℕ → KnownTable → List Member → Type 0
AreSomeMembers near places table members = AreColumns places table × ((steps : ℕ) × All (IsMember near steps places table) members)

-- a query that can be opened: its columns are some of these, of which nothing is read in tables for which it is valid
pub record IsReady (places : List ℕ) (table : KnownTable) (query : Query) : Type 0 where
  pub named : All (Stands places) query.columns
  pub head : Head
  pub valid : IsValid head query
  pub unread : AreUnread head places table

-- nothing is read, and no step was done
pub record IsOpened (query : Query) (head : Head) (near : Nearness) (places : List ℕ) (table : KnownTable) (member : Member) : Type 0 where
  pub stage : stage_in table member ≡ opened query head
  pub unmoved : member.moved ≡ 0
  pub kept : IsMember near 0 places table member

pub record AreOpened (queries : List Query) (head : Head) (near : Nearness) (places : List ℕ) (table : KnownTable)
    (members : List Member) : Type 0 where
  pub stages : stages_of table members ≡ map (λ query. opened query head) queries
  pub unmoved : All (λ member. member.moved ≡ 0) members
  pub each : All (IsMember near 0 places table) members

-- ---- a step

-- this step read the next plane of a column, with these bits, and the member was not handed it yet
pub record IsBehind (near : Nearness) (step column : ℕ) (places : List ℕ) (bits : List Bool) (table : KnownTable)
    (member : Member) : Type 0 where
  pub steps : ℕ
  pub next : step ≡ steps + 1
  pub before : KnownTable
  pub columns : AreColumns places before
  pub legal : CanTake before.frame before.known column bits
  pub read : table ≡ read_column before column bits
  pub kept : IsMember near steps places before member

-- a member before and after it was handed a plane of the column at this place in this step: it took the plane where it awaits it
pub record WasHanded (near : Nearness) (step place : ℕ) (places : List ℕ) (bits : List Bool) (table : KnownTable)
    (old new : Member) : Type 0 where
  pub stage : stage_in table new ≡ followed near place bits (stage_in table old)
  pub moved : new.moved ≡ (if is_some (awaited near place (stage_in table old)) then step else old.moved)
  pub kept : IsMember near step places table new

-- each member below this number was handed the plane
pub record HandedBelow (near : Nearness) (step place : ℕ) (places : List ℕ) (bits : List Bool) (table : KnownTable) (old new : List Member)
    (end : ℕ) : Type 0 where
  pub wide : length new ≡ length old
  pub handed : (k : ℕ) (d : Member) → k < end →
      WasHanded near step place places bits table (slice_index_or old k d) (slice_index_or new k d)
  pub rest : (k : ℕ) (d : Member) → end ≤ k → slice_index_or new k d ≡ slice_index_or old k d

-- ---- a session

-- what its members tell of a session
abbrev pub session_of : Nearness → List ℕ → KnownTable → List Member → ℕ → Session
session_of near places table members steps = record {
  near = near;
  rows = table.frame.rows;
  columns = places;
  stages = stages_of table members;
  moved = map (λ member. member.moved == steps) members;
  steps = steps;
}

pub record IsSession (near : Nearness) (places : List ℕ) (table : KnownTable) (members : List Member) (steps : ℕ) : Type 0 where
  pub narrow : near.width < 2 ^ 63
  pub columns : AreColumns places table
  pub few_columns : length places ≤ 16
  pub few_members : length members ≤ 16
  pub each : All (IsMember near steps places table) members
  -- each step went to a query
  pub counted : steps ≤ sum_by (λ stage. planes_read stage.known) (stages_of table members)
