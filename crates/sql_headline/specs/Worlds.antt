-- A query that is answered round by round, and the worlds of a round: the tables that may be the one that is asked.
use Rattle.std.specs.Prelude.{◌≡◌, ◌≢◌, ℕ, ◌<◌, ◌≤◌, List, [], length}
use Rattle.daq_table.specs.Tables.{Cells, IsTable, frame_of}
use Rattle.daq_table.specs.declared.table_head.Head.{Head}
use Rattle.plane_schedule.specs.declared.policy.Plan.{Plan}
use Rattle.query_model.specs.Answers.{Key}
use Rattle.query_model.specs.Knowledge.{IsAllRead, plane_of}
use Rattle.query_model.specs.Queries.{Query}
use Rattle.round_engine.specs.Stages.{Stage}
use Rattle.sql_text.specs.Tree as tree
use Rattle.sql_typing.specs.Refusals.{IsTyped}
use Rattle.sql_meaning.specs.Answers.{grouping}
use Rattle.sql_meaning.specs.Laws.{HasValues, key_at}
use Rattle.table_rounds.specs.Headline.{AreOfLongs, IsKeyOn, stage_of}
use Rattle.table_rounds.specs.Rounds.{AreRounds, HasPlanes, counts_after}

-- a query as it is written, the table that it is asked of, as what it is typed, and the columns whose planes are read, in order
pub record Run : Type 0 where
  pub text : tree.Query
  pub head : Head
  pub cells : Cells
  pub query : Query
  pub reads : List ℕ

-- the query is typed over the table's head, and the columns are those that a plan reads
pub record IsRun (run : Run) (plan : Plan) : Type 0 where
  pub typed : IsTyped run.text run.head run.query
  pub table : IsTable (frame_of run.head) run.cells
  -- the numbers of each column are of 64 bits, as those of every head are
  pub longs : AreOfLongs (frame_of run.head)
  pub rounds : AreRounds plan run.query (frame_of run.head) (plane_of (frame_of run.head) run.cells) run.reads

-- what is known after a round
abbrev pub stage_at : Run → ℕ → Stage
stage_at run round = stage_of run.query (frame_of run.head) run.cells run.reads round

-- all planes of the query's columns are read
abbrev pub IsDone : Run → ℕ → Type 0
IsDone run round = IsAllRead (stage_at run round).frame (stage_at run round).known

-- a world of a round: a whole table with the head, which has the planes that were read. Null alone has no value in it
pub record IsWorld (run : Run) (round : ℕ) (world : Cells) : Type 0 where
  pub has_planes :
      HasPlanes run.query (frame_of run.head) (plane_of (frame_of run.head) run.cells) (counts_after run.query run.reads round) world
  pub has_values : HasValues run.head world

-- the key is that of the group of a row in the world. Without GROUP BY there is one group, whichever row is named, or none
pub record IsGroupOf (run : Run) (world : Cells) (key : Key) (one : ℕ) : Type 0 where
  pub row : grouping run.text.ending ≢ [] → one < run.head.rows
  pub same : key ≡ key_at run.query run.head world one

-- the group of each row of a world has a key of the query's groups
abbrev pub RowsHaveKeys : Type 0
RowsHaveKeys =
    (run : Run) (plan : Plan) (round : ℕ) (world : Cells) (key : Key) (one : ℕ) → IsRun run plan → round ≤ length run.reads →
    IsWorld run round world → IsGroupOf run world key one → IsKeyOn run.query (frame_of run.head) key
