-- The rounds of a query over the planes of a table by a plan: which column is read next, what is known after each, and which is the last.
-- The frames and cells here are those of whole tables. Round 0 is nothing read, and each later one reads the next plane of a column of
-- the query.
use Rattle.std.specs.Prelude.{◌≡◌, ℕ, zero, suc, ◌-◌, ◌<◌, ◌==◌, Bool, List}
use Rattle.std.specs.Prelude.{length, map, replicate, take, slice_get, slice_index, count_by}
use Rattle.std.specs.declared.option.Option.{Option}
use Rattle.std.specs.declared.option.Option.TheVariants.{Some, None}
use Rattle.std.specs.List.{range_with_len, sum}
use Rattle.daq_table.specs.Tables.{Cells, Frame, IsTable, ends_at, planes}
use Rattle.plane_schedule.specs.Choices.{Outlook}
use Rattle.plane_schedule.specs.Plans.{ending_of}
use Rattle.plane_schedule.specs.declared.policy.Ending.{Ending}
use Rattle.plane_schedule.specs.declared.policy.Plan.{Plan}
use Rattle.query_model.specs.Knowledge.{IsKnowledge, Knowledge, known_at, known_of, longer, plane_of}
use Rattle.query_model.specs.Projection.{projected, projected_frame}
use Rattle.query_model.specs.declared.query.TypedQuery.{TypedQuery}
use Rattle.round_engine.specs.Narrowness.{is_narrow}
use Rattle.round_engine.specs.Progresses.{gives_values, planes_read, possible_rows, role_of, taken_of, unknown_rows}
use Rattle.round_engine.specs.Stages.{IsFirstOver, Stage}
use Rattle.table_rounds.specs.Courses.{AreAllReads, AreReads, Course, number_after}

-- the planes of a table, by its columns and the numbers of their planes: a bit for each row
abbrev pub Planes : Type 0
Planes = ℕ → ℕ → List Bool

-- each plane has a bit for each row
abbrev pub HaveRows : Frame → Planes → Type 0
HaveRows frame bits =
    (column number : ℕ) → column < length frame.columns → number < planes (ends_at frame column) → length (bits column number) ≡ frame.rows

-- the numbers that the first bits of the rows write, highest first
abbrev pub prefixes_by : ℕ → (ℕ → List Bool) → ℕ → List ℕ
prefixes_by rows column zero = replicate rows 0
prefixes_by rows column (suc number) = longer (prefixes_by rows column number) (column number)

-- what so many planes of each of these columns tell
abbrev pub known_by : ℕ → List ℕ → Planes → List ℕ → Knowledge
known_by rows columns bits counts =
    map (λ c. let read = slice_index counts c in record { read = read; prefixes = prefixes_by rows (bits (slice_index columns c)) read })
    (range_with_len 0 (length columns))

-- what is known after so many planes of each of the query's columns
abbrev pub stage_by : TypedQuery → Frame → Planes → List ℕ → Stage
stage_by query frame bits counts =
    record { query = query; frame = projected_frame query frame; known = known_by frame.rows query.columns bits counts }

-- the same of a table, by its cells
abbrev pub stage_with : TypedQuery → Frame → Cells → List ℕ → Stage
stage_with query frame cells counts =
    let part = projected_frame query frame in record { query = query; frame = part; known = known_of part (projected query cells) counts }

-- so many planes of each of the query's columns are the same
abbrev pub HaveSame : TypedQuery → List ℕ → Planes → Planes → Type 0
HaveSame query counts a b =
    (c number : ℕ) → c < length query.columns → number < slice_index counts c →
    a (slice_index query.columns c) number ≡ b (slice_index query.columns c) number

-- a table that has so many planes of each of the query's columns; its others may be any
pub record HasPlanes (query : TypedQuery) (frame : Frame) (bits : Planes) (counts : List ℕ) (cells : Cells) : Type 0 where
  pub table : IsTable frame cells
  pub same : HaveSame query counts (plane_of frame cells) bits

-- how often each of the query's columns stands among the first so many reads
abbrev pub counts_after : TypedQuery → List ℕ → ℕ → List ℕ
counts_after query reads round = map (λ c. count_by (λ d. d == c) (take round reads)) (range_with_len 0 (length query.columns))

-- what is known after a round, where these columns are read, in order
abbrev pub stage_after : TypedQuery → Frame → Planes → List ℕ → ℕ → Stage
stage_after query frame bits reads round = stage_by query frame bits (counts_after query reads round)

-- the planes of a column that are unread
abbrev pub unread_of : Stage → ℕ → ℕ
unread_of stage c = planes (ends_at stage.frame c) - (known_at stage.known c).read

-- those of all columns together
abbrev pub unread_planes : Stage → ℕ
unread_planes stage = sum (map planes stage.frame.columns) - planes_read stage.known

-- what a policy looks at
abbrev pub outlook_at : Stage → Outlook
outlook_at stage = record {
  columns = length stage.frame.columns;
  unread = unread_of stage;
  taken = taken_of stage;
  role = λ c. Some (role_of stage.query c);
  gives = λ c. Some (gives_values stage.query c);
  unknown = unknown_rows stage;
  possible = possible_rows stage;
  read = planes_read stage.known;
}

-- why the rounds end here, if they do. The number of a round is that of the planes read
abbrev pub ending_at : Plan → Stage → Option Ending
ending_at plan stage = ending_of plan (is_narrow plan.near stage) (planes_read stage.known)

-- the course of the rounds
abbrev pub rounds_of : Plan → TypedQuery → Frame → Planes → Course
rounds_of plan query frame bits = record {
  policy = plan.policy;
  ending = λ reads round. ending_at plan (stage_after query frame bits reads round);
  outlook = λ reads round. outlook_at (stage_after query frame bits reads round);
  legal = λ reads round. IsKnowledge (projected_frame query frame) (stage_after query frame bits reads round).known;
  place = slice_index query.columns;
  over = λ reads c. let plane = bits (slice_index query.columns c) (number_after reads (length reads) c) in
      IsFirstOver (stage_after query frame bits reads (length reads)) c plane;
}

-- the rounds so far read these columns, and all do
abbrev pub AreRounds : Plan → TypedQuery → Frame → Planes → List ℕ → Type 0
AreRounds plan query frame bits = AreReads (rounds_of plan query frame bits)

abbrev pub AreAllRounds : Plan → TypedQuery → Frame → Planes → List ℕ → Type 0
AreAllRounds plan query frame bits = AreAllReads (rounds_of plan query frame bits)

-- the column that a round read: none in round 0
abbrev pub column_read : List ℕ → ℕ → Option ℕ
column_read reads zero = None
column_read reads (suc before) = slice_get reads before

-- after rounds that read these columns, in order, this is what is known
pub record IsAfter (plan : Plan) (query : TypedQuery) (frame : Frame) (bits : Planes) (reads : List ℕ) (stage : Stage) : Type 0 where
  pub rounds : AreRounds plan query frame bits reads
  pub known : stage ≡ stage_after query frame bits reads (length reads)
