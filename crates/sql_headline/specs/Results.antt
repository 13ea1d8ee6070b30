-- The results of a query in the words of SQL: which keys have a line, and which rows are among the first.
use Rattle.std.specs.Prelude.{◌≡◌, ◌≢◌, ℕ, ◌<◌, ◌≤◌, Bool, length, IsFalse, IsTrue}
use Rattle.daq_table.specs.Tables.{Cells, frame_of}
use Rattle.daq_report.specs.Rankings.{standing_at}
use Rattle.plane_schedule.specs.declared.policy.Plan.{Plan}
use Rattle.query_model.specs.Answers.{Key}
use Rattle.query_model.specs.declared.bounds.Nullity.TheVariants.{Always, Never, Possibly}
use Rattle.query_model.specs.declared.bounds.Standing.TheVariants.{Certain, Excluded, Possible}
use Rattle.query_model.specs.Meaning.{is_sql_true}
use Rattle.round_engine.specs.Cells.{absence_in_cell}
use Rattle.sql_text.specs.declared.tree.Num.{Num}
use Rattle.sql_text.specs.Tree as tree
use Rattle.sql_meaning.specs.Conditions.{truth_of_where}
use Rattle.sql_meaning.specs.Laws.{key_at}
use Rattle.sql_meaning.specs.Orders.{is_among_first}
use Rattle.sql_meaning.specs.Rows.{row_at}
use Rattle.table_rounds.specs.Headline.{IsKeyOn}
use Rattle.sql_headline.specs.Lines.{IsCellOf}
use Rattle.sql_headline.specs.Worlds.{IsDone, IsRun, IsWorld, Run, stage_at}

-- the key is in the result, as the query is written: it is that of a row at which the condition is true
pub record IsInResult (run : Run) (world : Cells) (key : Key) : Type 0 where
  pub row : ℕ
  pub within : row < run.head.rows
  pub counts : IsTrue (is_sql_true (truth_of_where run.text.pred (row_at run.head world row)))
  pub same : key ≡ key_at run.query run.head world row

-- what the lines of a cell say of its keys: where a report shows them as present they are in the result of each world, and where it has
-- no line, in that of none. With all planes read no key is possible and no more
pub record TellsKeys (run : Run) (key : Key) : Type 0 where
  pub present : (round cell : ℕ) → round ≤ length run.reads → IsCellOf (stage_at run round) key cell →
      absence_in_cell (stage_at run round) cell ≡ Never → (world : Cells) → IsWorld run round world → IsInResult run world key
  pub missing : (round cell : ℕ) → round ≤ length run.reads → IsCellOf (stage_at run round) key cell →
      absence_in_cell (stage_at run round) cell ≡ Always → (world : Cells) → IsWorld run round world → ¬ IsInResult run world key
  pub exact : (round cell : ℕ) → round ≤ length run.reads → IsCellOf (stage_at run round) key cell → IsDone run round →
      absence_in_cell (stage_at run round) cell ≢ Possibly

abbrev pub KeysAreTold : Type 0
KeysAreTold = (run : Run) (plan : Plan) (key : Key) → IsRun run plan → IsKeyOn run.query (frame_of run.head) key → TellsKeys run key

-- ---- rows in an order

-- the row is among the first as the query is written
abbrev pub is_first : Run → tree.Name → Bool → Num → Cells → ℕ → Bool
is_first run key down limit world row =
    is_among_first (record { pred = run.text.pred; key = key; down = down; limit = limit }) (row_at run.head world) run.head.rows row

-- a row that a report shows as certain is among the first of each world, and one that it shows in no way is among those of none
pub record TellsRow (run : Run) (key : tree.Name) (down : Bool) (limit : Num) (row : ℕ) : Type 0 where
  pub certain : (round : ℕ) → round ≤ length run.reads → standing_at (stage_at run round) row ≡ Certain → (world : Cells) →
      IsWorld run round world → IsTrue (is_first run key down limit world row)
  pub excluded : (round : ℕ) → round ≤ length run.reads → standing_at (stage_at run round) row ≡ Excluded → (world : Cells) →
      IsWorld run round world → IsFalse (is_first run key down limit world row)
  pub exact : (round : ℕ) → round ≤ length run.reads → IsDone run round → standing_at (stage_at run round) row ≢ Possible

abbrev pub RowsAreTold : Type 0
RowsAreTold =
    (run : Run) (plan : Plan) (key : tree.Name) (down : Bool) (limit : Num) (row : ℕ) → IsRun run plan →
    run.text.ending ≡ tree.Ordered key down limit → row < run.head.rows → TellsRow run key down limit row
