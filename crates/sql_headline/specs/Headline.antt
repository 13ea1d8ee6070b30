-- The headline in the words of SQL: what the intervals of a report say of the query as it is written.
use Rattle.std.specs.Prelude.{◌≡◌, ℕ, ◌+◌, ◌<◌, ◌≤◌, Bool, true, false, List, length}
use Rattle.std.specs.declared.option.Option.{Option}
use Rattle.std.specs.List.{filter_map}
use Rattle.daq_table.specs.Tables.{Cells, frame_of}
use Rattle.plane_schedule.specs.declared.policy.Plan.{Plan}
use Rattle.query_model.specs.Answers.{Key}
use Rattle.query_model.specs.Queries.{Aggregate}
use Rattle.sql_text.specs.declared.tree.CallKind.{CallKind}
use Rattle.sql_text.specs.declared.tree.CallKind.TheVariants.{Avg, Count, Max, Min, Sum}
use Rattle.sql_text.specs.Tree as tree
use Rattle.sql_meaning.specs.Conditions.{Row}
use Rattle.sql_meaning.specs.Expressions.{value}
use Rattle.sql_meaning.specs.Answers.{Share, answer, average, group_of}
use Rattle.sql_meaning.specs.Laws.{IsAsked}
use Rattle.sql_meaning.specs.Rows.{row_at, rows_at}
use Rattle.table_rounds.specs.Headline.{IsKeyOn}
use Rattle.sql_headline.specs.Intervals.{Encloses, EnclosesShare, Interval, IsAlone, IsShareAlone, LiesInside, ShareLiesInside, Shares}
use Rattle.sql_headline.specs.Intervals.{Shows, ShowsShares}
use Rattle.sql_headline.specs.Lines.{IsAverageShownFor, IsShownFor}
use Rattle.sql_headline.specs.Worlds.{IsDone, IsGroupOf, IsRun, IsWorld, Run, stage_at}

-- the item is AVG of an expression
abbrev pub is_average_call : CallKind → Bool
is_average_call Count = false
is_average_call Sum = false
is_average_call Avg = true
is_average_call Min = false
is_average_call Max = false

abbrev pub is_average : tree.Item → Bool
is_average (tree.Plain n) = false
is_average tree.CountAll = false
is_average (tree.Call kind e) = is_average_call kind

-- the rows of the group of a row, in a world
abbrev pub rows_in : Run → Cells → ℕ → List Row
rows_in run world one = group_of run.text (row_at run.head world one) (rows_at run.head world)

-- for an item and a key there is an interval in each round
pub record HoldsAnswers (run : Run) (item : tree.Item) (typed : Aggregate) (key : Key) : Type 0 where
  pub intervals : ℕ → Interval
  -- the report shows it
  pub shown : (round : ℕ) → round ≤ length run.reads → (text : List ℕ) → IsShownFor run.head (stage_at run round) typed key text →
      Shows (intervals round) text
  -- in each world it encloses the value of the item as it is written, over the rows of the group
  pub encloses : (round : ℕ) → round ≤ length run.reads → (world : Cells) (one : ℕ) → IsWorld run round world →
      IsGroupOf run world key one → Encloses (intervals round) (answer item (rows_in run world one))
  -- it lies inside the one before
  pub nested : (round : ℕ) → round < length run.reads → LiesInside (intervals round) (intervals (round + 1))
  -- with all planes read it is the value
  pub exact : (round : ℕ) → round ≤ length run.reads → IsDone run round → (world : Cells) (one : ℕ) →
      IsWorld run round world → IsGroupOf run world key one → IsAlone (intervals round) (answer item (rows_in run world one))

-- so it is with each item that is no average, and each key
abbrev pub IntervalsHoldAnswers : Type 0
IntervalsHoldAnswers =
    (run : Run) (plan : Plan) (item : tree.Item) (typed : Aggregate) (key : Key) → IsRun run plan →
    IsAsked run.text run.query item typed → is_average item ≡ false → IsKeyOn run.query (frame_of run.head) key →
    HoldsAnswers run item typed key

-- ---- averages

-- the average of an expression as it is written, over the rows of the group
abbrev pub average_in : Run → tree.Expr → Cells → ℕ → Option Share
average_in run e world one = average (filter_map (value e) (rows_in run world one))

-- for an average and a key there is an interval in each round, in the same way
pub record HoldsAverages (run : Run) (e : tree.Expr) (typed : Aggregate) (key : Key) : Type 0 where
  pub shares : ℕ → Shares
  pub shown : (round : ℕ) → round ≤ length run.reads → (text : List ℕ) →
      IsAverageShownFor run.head (stage_at run round) typed key text → ShowsShares (shares round) text
  pub encloses : (round : ℕ) → round ≤ length run.reads → (world : Cells) (one : ℕ) → IsWorld run round world →
      IsGroupOf run world key one → EnclosesShare (shares round) (average_in run e world one)
  pub nested : (round : ℕ) → round < length run.reads → ShareLiesInside (shares round) (shares (round + 1))
  pub exact : (round : ℕ) → round ≤ length run.reads → IsDone run round → (world : Cells) (one : ℕ) →
      IsWorld run round world → IsGroupOf run world key one → IsShareAlone (shares round) (average_in run e world one)

abbrev pub IntervalsHoldAverages : Type 0
IntervalsHoldAverages =
    (run : Run) (plan : Plan) (e : tree.Expr) (typed : Aggregate) (key : Key) → IsRun run plan →
    IsAsked run.text run.query (tree.Call Avg e) typed → IsKeyOn run.query (frame_of run.head) key → HoldsAverages run e typed key
