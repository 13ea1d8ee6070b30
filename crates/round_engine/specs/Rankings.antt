-- The first rows in an order: what a ranking keeps of them.
use Rattle.std.specs.Prelude.{◌≡◌, ℕ, ◌<◌, ◌≤◌, Bool, not, ◌||◌, IsTrue, IsFalse, List, length, map, get_or}
use Rattle.daq_table.specs.Tables.{rows_of}
use Rattle.kleene_filter.specs.Filters.{is_certain, is_possible, truths_under}
use Rattle.known_column.specs.Columns.{KnownColumn}
use Rattle.known_column.specs.KnownTables.{KnownTable, column_at}
use Rattle.query_model.specs.declared.bounds.Standing.{Standing}
use Rattle.query_model.specs.declared.bounds.Standing.TheVariants.{Excluded}
use Rattle.query_model.specs.declared.bounds.Truth.{Truth}
use Rattle.query_model.specs.declared.query.Shape.TheVariants.{Top}
use Rattle.query_model.specs.Knowledge.{ranges_of}
use Rattle.query_model.specs.Ranking.{standing_under}
use Rattle.topk_bounds.specs.Searches.{HasJudged}
use Rattle.topk_bounds.specs.Standings.{is_certain as is_first}
use Rattle.round_engine.specs.declared.ranking.Ranking.{Ranking}
use Rattle.round_engine.specs.Narrowness.{is_near_key}
use Rattle.round_engine.specs.Stages.{IsOpenStage, Stage, stepped}

-- what is known of whether each row is among the first
abbrev pub standings_under : Stage → List Standing
standings_under stage = map (standing_under stage.query stage.frame stage.known) (rows_of stage.frame)

-- the rows at which what is known of the condition passes a test
abbrev pub rows_passing : (Truth → Bool) → Stage → List Bool
rows_passing test stage = map test (truths_under stage.query.pred (record { frame = stage.frame; known = stage.known }))

-- what is known of a column
abbrev pub column_in : Stage → ℕ → KnownColumn
column_in stage c = column_at (record { frame = stage.frame; known = stage.known }) c

-- the order is that of the query, and there is a standing for each row
pub record HoldsOrder (stage : Stage) (ranking : Ranking) : Type 0 where
  pub order : stage.query.shape ≡ Top ranking.key ranking.top.down ranking.top.limit
  pub rows : length ranking.top.standings ≡ stage.frame.rows

-- the standings are those of the stage, by the rows that pass surely or perhaps and the sort key
pub record IsRanking (stage : Stage) (ranking : Ranking) : Type 0 where
  pub holds : HoldsOrder stage ranking
  pub standings : ranking.top.standings ≡ standings_under stage
  pub judged : HasJudged ranking.top (rows_passing is_certain stage) (rows_passing is_possible stage) (column_in stage ranking.key)

-- ---- the keys of the first rows

-- the row is not among the first for certain, or its key is near
abbrev pub is_key_near : ℕ → KnownTable → Ranking → ℕ → Bool
is_key_near width columns ranking r =
    not (is_first (get_or ranking.top.standings r Excluded)) || is_near_key width (ranges_of columns.frame columns.known r ranking.key)

-- so it is of each row from the first on, up to the last
abbrev pub AreKeysNear : ℕ → KnownTable → Ranking → ℕ → ℕ → Type 0
AreKeysNear width columns ranking first last = (r : ℕ) → first ≤ r → r < last → IsTrue (is_key_near width columns ranking r)

-- a row is among the first for certain, and its key is not near
pub record HasFarKey (width : ℕ) (columns : KnownTable) (ranking : Ranking) : Type 0 where
  pub row : ℕ
  pub inside : row < columns.frame.rows
  pub far : IsFalse (is_key_near width columns ranking row)

-- the sort key is one of the columns, and there is a standing for each row
pub record IsOver (columns : KnownTable) (ranking : Ranking) : Type 0 where
  pub key : ranking.key < length columns.frame.columns
  pub rows : length ranking.top.standings ≡ columns.frame.rows

-- they are those of before these bits were read as the next plane of a column
pub record WasRanking (stage : Stage) (column : ℕ) (bits : List Bool) (ranking : Ranking) : Type 0 where
  pub before : Stage
  pub open_stage : IsOpenStage before
  pub stood : IsRanking before ranking
  pub rows : length bits ≡ before.frame.rows
  pub read : stage ≡ stepped before column bits
