-- What each round says of the answers on the table: its values, the bounds of its items, its keys and its first rows.
use Rattle.plane_schedule.specs.declared.policy.Nearness.{Nearness}
use Rattle.std.specs.Prelude.{◌≡◌, ◌⊎◌, ℕ, ◌+◌, ◌<◌, ◌≤◌, List}
use Rattle.std.specs.Prelude.{[], ◌++◌, length, map, take, slice_get, IsTrue, IsNone}
use Rattle.std.specs.declared.option.Option.TheVariants.{Some}
use Rattle.std.specs.List.{sum}
use Rattle.daq_table.specs.Tables.{Cells, Frame, IsTable, frame_of, planes, row_of}
use Rattle.daq_table.specs.declared.table_head.Head.{Head}
use Rattle.avg_exact.specs.ExactAverages.{ends_of}
use Rattle.avg_exact.specs.Promises.{IsCertainExact, exact_at}
use Rattle.clip_bounds.specs.Clips.{clip_of}
use Rattle.clip_bounds.specs.Clipped.{IsCertainClip, clipped_in}
use Rattle.clip_bounds.specs.ClipLaws.{IsOfLongs}
use Rattle.clip_bounds.specs.declared.clip.Clip.{Clip}
use Rattle.plane_schedule.specs.Choices.{HasUnread}
use Rattle.plane_schedule.specs.Plans.{IsReadable}
use Rattle.plane_schedule.specs.declared.policy.Plan.{Plan}
use Rattle.plane_schedule.specs.declared.policy.Policy.TheVariants.{Listed}
use Rattle.query_model.specs.Answers.{Key, groups_of}
use Rattle.query_model.specs.Bounds.{IsNested, IsNestedAverage}
use Rattle.query_model.specs.Groups.{IsKey}
use Rattle.query_model.specs.Knowledge.{AreCounts, IsAllRead, IsKnowledge, plane_of, ranges_of}
use Rattle.query_model.specs.Projection.{projected, projected_frame}
use Rattle.query_model.specs.Truths.{IsIn, IsNarrower}
use Rattle.query_model.specs.Validity.{IsTop}
use Rattle.query_model.specs.Worlds.{AgreesWith, NamesColumns}
use Rattle.query_model.specs.declared.query.Item.{Item}
use Rattle.query_model.specs.declared.query.ItemKind.TheVariants.{Avg}
use Rattle.query_model.specs.declared.query.Shape.TheVariants.{Plain}
use Rattle.query_model.specs.declared.query.TypedQuery.{TypedQuery}
use Rattle.round_engine.specs.Cells.{HasCell}
use Rattle.round_engine.specs.Narrowness.{is_narrow}
use Rattle.round_engine.specs.Progresses.{planes_read}
use Rattle.round_engine.specs.Promises.{IsCertain, IsCertainKey, IsCertainStanding, LiesWithin, StandingsStay}
use Rattle.round_engine.specs.Stages.{Stage, opened}
use Rattle.table_rounds.specs.Courses.{IsRefused}
use Rattle.table_rounds.specs.Rounds.{AreAllRounds, AreRounds, HasPlanes, HaveRows, HaveSame, IsAfter}
use Rattle.table_rounds.specs.Rounds.{Planes, counts_after, ending_at, outlook_at, rounds_of, stage_after, stage_by, stage_with}

-- the planes of the query's columns, of all together
abbrev pub all_planes : TypedQuery → Frame → ℕ
all_planes query frame = sum (map planes (projected_frame query frame).columns)

-- what is known of a table after a round
abbrev pub stage_of : TypedQuery → Frame → Cells → List ℕ → ℕ → Stage
stage_of query frame cells reads round = stage_after query frame (plane_of frame cells) reads round

-- a key of the query's groups, on tables with the frame: a query without groups has one, that of no parts
abbrev pub IsKeyOn : TypedQuery → Frame → Key → Type 0
IsKeyOn query frame key = IsKey (projected_frame query frame) (groups_of query.shape) key

-- on each table that agrees with what is known, the value of a column at a row is in its range
abbrev pub IsCertainValue : Stage → Frame → ℕ → ℕ → Type 0
IsCertainValue stage frame row column =
    (world : Cells) → AgreesWith stage.query frame stage.known world →
    IsIn (ranges_of stage.frame stage.known row column) (row_of stage.frame (projected stage.query world) row column)

-- its range at the second stage lies within that at the first
abbrev pub ValueLiesWithin : Stage → Stage → ℕ → ℕ → Type 0
ValueLiesWithin old new row column =
    IsNarrower (ranges_of new.frame new.known row column) (ranges_of old.frame old.known row column)

-- the numbers of each column are of 64 bits, as those of every head are
abbrev pub AreOfLongs : Frame → Type 0
AreOfLongs frame = (c : ℕ) → c < length frame.columns → IsOfLongs frame c

-- an item of the query, whose column the condition clips so
pub record IsClippedItem (query : TypedQuery) (i : ℕ) (item : Item) (clip : Clip) : Type 0 where
  pub there : slice_get query.items i ≡ Some item
  pub clipped : clip_of query item ≡ Some clip

-- an average of a query without groups
pub record IsPlainAverage (query : TypedQuery) (i : ℕ) (item : Item) : Type 0 where
  pub plain : query.shape ≡ Plain
  pub there : slice_get query.items i ≡ Some item
  pub average : item.kind ≡ Avg

-- the clipped bound of an item, and the exact ends of an average, lie within those before
abbrev pub ClipLiesWithin : Stage → Stage → Item → Clip → Type 0
ClipLiesWithin old new item clip = IsNested (clipped_in old item clip) (clipped_in new item clip)

abbrev pub ExactLiesWithin : Stage → Stage → Item → Type 0
ExactLiesWithin old new item = IsNestedAverage (ends_of (exact_at old item)) (ends_of (exact_at new item))

-- what holds of each round over a table, up to the last
pub record AreCertain (query : TypedQuery) (frame : Frame) (cells : Cells) (reads : List ℕ) : Type 0 where
  -- the table itself is among those that agree with what is known
  pub itself : (round : ℕ) → round ≤ length reads → AgreesWith query frame (stage_of query frame cells reads round).known cells
  -- each value lies in its range on every table that agrees
  pub values : (round : ℕ) → round ≤ length reads → (row column : ℕ) → row < frame.rows → column < length query.columns →
      IsCertainValue (stage_of query frame cells reads round) frame row column
  -- each value's range lies within the one before
  pub values_nested : (round : ℕ) → round < length reads → (row column : ℕ) → row < frame.rows →
      ValueLiesWithin (stage_of query frame cells reads round) (stage_of query frame cells reads (round + 1)) row column
  -- for each key, each item's bound admits its answer on every table that agrees; where the item attains its ends, as it does where it
  -- is read-once (condition, groups and argument together name no column twice), it is as narrow as it can be, but for averages; and
  -- where all planes are read, its ends are the answer, and it is known whether that is null
  pub certain : (round : ℕ) → round ≤ length reads → (key : Key) → IsKeyOn query frame key →
      (i : ℕ) (item : Item) → slice_get query.items i ≡ Some item → IsCertain (stage_of query frame cells reads round) item key frame
  -- each bound lies within the one before
  pub nested : (round : ℕ) → round < length reads → (key : Key) → IsKeyOn query frame key →
      (i : ℕ) (item : Item) → slice_get query.items i ≡ Some item →
      LiesWithin (stage_of query frame cells reads round) (stage_of query frame cells reads (round + 1)) item key
  -- where the condition clips an item's column, the clipped bound too admits the answer on every table that agrees; where no column
  -- stands in the condition twice, or where those that do stand there in ranges that meet, it is as narrow as it can be; and where all
  -- planes are read, its ends are the answer, and it is known whether that is null
  pub clips : (round : ℕ) → round ≤ length reads → (i : ℕ) (item : Item) (clip : Clip) → IsClippedItem query i item clip →
      IsCertainClip (stage_of query frame cells reads round) item clip frame
  -- each clipped bound lies within the one before
  pub clips_nested : (round : ℕ) → round < length reads → (i : ℕ) (item : Item) (clip : Clip) → IsClippedItem query i item clip →
      ClipLiesWithin (stage_of query frame cells reads round) (stage_of query frame cells reads (round + 1)) item clip
  -- the exact ends of an average admit it on every table that agrees; where the item attains its ends they are as narrow as they can
  -- be; and where all planes are read, they are the average, and it is known whether that is null
  pub averages : (round : ℕ) → round ≤ length reads → (i : ℕ) (item : Item) → IsPlainAverage query i item →
      IsCertainExact (stage_of query frame cells reads round) item frame
  -- they lie within those before
  pub averages_nested : (round : ℕ) → round < length reads → (i : ℕ) (item : Item) → IsPlainAverage query i item →
      ExactLiesWithin (stage_of query frame cells reads round) (stage_of query frame cells reads (round + 1)) item
  -- a key is said to be in the result only where it is in that of each table that agrees, and to be missing only where it is in none;
  -- where condition and group columns attain their truths, any other key is in that of one such table and missing in that of another
  pub results : (round : ℕ) → round ≤ length reads → (key : Key) → IsKeyOn query frame key →
      IsCertainKey (stage_of query frame cells reads round) key frame
  -- each key is in one cell, and what is told of the cell is so of the key; of the cells that are told, its own alone has it in its
  -- ranges
  pub in_cells : (round : ℕ) → round ≤ length reads → (key : Key) → IsKeyOn query frame key →
      HasCell (stage_of query frame cells reads round) key
  -- where the first rows in an order are asked for, a certain row is among them on each table that agrees, and an excluded row on none
  pub standings : IsTop query.shape → (round : ℕ) → round ≤ length reads → (row : ℕ) → row < frame.rows →
      IsCertainStanding (stage_of query frame cells reads round) row frame
  -- certain and excluded rows stay so
  pub kept : IsTop query.shape → (round : ℕ) → round < length reads →
      StandingsStay (stage_of query frame cells reads round) (stage_of query frame cells reads (round + 1))
  -- there are no more rounds that read a plane than there are planes
  pub few : length reads ≤ all_planes query frame

-- ---- laws of what planes tell, each the contract of a function that does nothing

-- the planes of a table tell of it what is known of it
abbrev pub TablesTellStages : Type 0
TablesTellStages =
    (query : TypedQuery) (frame : Frame) (cells : Cells) (counts : List ℕ) → NamesColumns query frame → IsTable frame cells →
    AreCounts (projected_frame query frame) counts →
    stage_by query frame (plane_of frame cells) counts ≡ stage_with query frame cells counts

-- what is known depends on the planes read alone
abbrev pub PlanesTellStages : Type 0
PlanesTellStages =
    (query : TypedQuery) (frame : Frame) (a b : Planes) (counts : List ℕ) → HaveSame query counts a b →
    stage_by query frame a counts ≡ stage_by query frame b counts

-- planes whose prefixes are legal are those of some table
abbrev pub LegalPlanesHaveTables : Type 0
LegalPlanesHaveTables =
    (query : TypedQuery) (frame : Frame) (bits : Planes) (counts : List ℕ) → NamesColumns query frame → HaveRows frame bits →
    AreCounts (projected_frame query frame) counts → IsKnowledge (projected_frame query frame) (stage_by query frame bits counts).known →
    (cells : Cells) × HasPlanes query frame bits counts cells

-- ---- laws of rounds

-- with nothing unread a round is narrow, however near its answers are to be
abbrev pub FullStagesAreNarrow : Type 0
FullStagesAreNarrow =
    (near : Nearness) (stage : Stage) → IsKnowledge stage.frame stage.known → IsAllRead stage.frame stage.known →
    IsTrue (is_narrow near stage)

-- so a plane is unread wherever the rounds go on
abbrev pub RoundsHavePlanes : Type 0
RoundsHavePlanes =
    (plan : Plan) (stage : Stage) → IsKnowledge stage.frame stage.known → IsNone (ending_at plan stage) → HasUnread (outlook_at stage)

-- nothing read is round 0 of every plan
abbrev pub RoundsBegin : Type 0
RoundsBegin =
    (plan : Plan) (query : TypedQuery) (head : Head) (bits : Planes) → IsAfter plan query (frame_of head) bits [] (opened query head)

-- rounds are those of each table that has the planes read, and what is known after each is what that table's planes tell
pub record AreOfTable (plan : Plan) (query : TypedQuery) (frame : Frame) (bits : Planes) (reads : List ℕ) (cells : Cells) : Type 0 where
  pub rounds : AreRounds plan query frame (plane_of frame cells) reads
  pub stages : (round : ℕ) → round ≤ length reads → stage_after query frame bits reads round ≡ stage_of query frame cells reads round

abbrev pub RoundsAreOfTables : Type 0
RoundsAreOfTables =
    (plan : Plan) (query : TypedQuery) (frame : Frame) (bits : Planes) (reads : List ℕ) (cells : Cells) →
    AreRounds plan query frame bits reads → HasPlanes query frame bits (counts_after query reads (length reads)) cells →
    AreOfTable plan query frame bits reads cells

-- and there is such a table
abbrev pub RoundsHaveTables : Type 0
RoundsHaveTables =
    (plan : Plan) (query : TypedQuery) (frame : Frame) (bits : Planes) (reads : List ℕ) → NamesColumns query frame → HaveRows frame bits →
    AreRounds plan query frame bits reads → (cells : Cells) × HasPlanes query frame bits (counts_after query reads (length reads)) cells

-- a round that is not the last is followed by another, unless the next plane is refused: so rounds go on to a last one, or to such a plane
abbrev pub RoundsHaveAnEnd : Type 0
RoundsHaveAnEnd =
    (plan : Plan) (query : TypedQuery) (frame : Frame) (bits : Planes) (reads : List ℕ) → NamesColumns query frame → HaveRows frame bits →
    IsReadable plan.policy (projected_frame query frame) → AreRounds plan query frame bits reads →
    (rest : List ℕ) × (AreAllRounds plan query frame bits (reads ++ rest)
    ⊎ ((column plane row : ℕ) × IsRefused (rounds_of plan query frame bits) (reads ++ rest) column plane row))

-- no plane of a table is refused
abbrev pub TablesAreTaken : Type 0
TablesAreTaken =
    (plan : Plan) (query : TypedQuery) (frame : Frame) (cells : Cells) (reads : List ℕ) (column plane row : ℕ) →
    NamesColumns query frame → IsTable frame cells →
    IsRefused (rounds_of plan query frame (plane_of frame cells)) reads column plane row → ⊥

-- the bounds of all rounds are certain, of each table that has the planes read
abbrev pub RoundsAreCertain : Type 0
RoundsAreCertain =
    (plan : Plan) (query : TypedQuery) (frame : Frame) (bits : Planes) (reads : List ℕ) (cells : Cells) → NamesColumns query frame →
    AreOfLongs frame → AreRounds plan query frame bits reads → HasPlanes query frame bits (counts_after query reads (length reads)) cells →
    AreCertain query frame cells reads

-- each round but the first reads one plane, so their number is that of the planes read
abbrev pub RoundsAreCounted : Type 0
RoundsAreCounted =
    (plan : Plan) (query : TypedQuery) (frame : Frame) (bits : Planes) (reads : List ℕ) (stage : Stage) →
    IsAfter plan query frame bits reads stage → planes_read stage.known ≡ length reads

-- the rounds of a plan over planes are one: there is one list of columns that they read
abbrev pub RoundsAreOne : Type 0
RoundsAreOne =
    (plan : Plan) (query : TypedQuery) (frame : Frame) (bits : Planes) (a b : List ℕ) →
    AreAllRounds plan query frame bits a → AreAllRounds plan query frame bits b → a ≡ b

-- rounds by a list read its columns, in order
abbrev pub ListsAreRead : Type 0
ListsAreRead =
    (plan : Plan) (list : List ℕ) (query : TypedQuery) (frame : Frame) (bits : Planes) (reads : List ℕ) →
    plan.policy ≡ Listed list → AreRounds plan query frame bits reads → reads ≡ take (length reads) list
