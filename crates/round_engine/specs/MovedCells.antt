-- Items of many cells before the next plane of a column and behind it, where neither the item reads the column nor a key.
use Rattle.std.specs.Prelude.{◌≡◌, ◌≢◌, ℕ, ℤ, Bool, false, List, length, if◌then◌else◌, slice_get}
use Rattle.std.specs.declared.option.Option.TheVariants.{Some}
use Rattle.aggregates.specs.Runnings.{Tallies}
use Rattle.round_engine.specs.CellAnswers.{StandForCells, StandForEach}
use Rattle.digit_sums.specs.declared.moves.RowMoves.{RowMoves}
use Rattle.digit_sums.specs.Moves.{AreFewMoves, AreMoved, CountedMoves, with_came, with_left}
use Rattle.kleene_filter.specs.Filters.{stands_in}
use Rattle.query_model.specs.Answers.{groups_of}
use Rattle.query_model.specs.Groups.{pairs_in_cell_below}
use Rattle.query_model.specs.Knowledge.{CanTake}
use Rattle.query_model.specs.Meaning.{columns_of}
use Rattle.query_model.specs.Queries.{Aggregate}
use Rattle.row_groups.specs.Partition.{is_group}
use Rattle.round_engine.specs.Cells.{cells_in}
use Rattle.round_engine.specs.SeenRows.{WereRows}
use Rattle.round_engine.specs.Stages.{IsOpenStage, Stage, stepped}

-- the stage before the last plane of a column: neither the item reads the column nor are rows grouped by it
pub record IsMovedFrom (stage : Stage) (item : Aggregate) (before : Stage) : Type 0 where
  pub column : ℕ
  pub bits : List Bool
  pub open_stage : IsOpenStage before
  pub legal : CanTake before.frame before.known column bits
  pub read : stage ≡ stepped before column bits
  pub cells_stay : is_group (groups_of before.query.shape) column ≡ false
  pub values_stay : stands_in (columns_of item.arg) column ≡ false

-- of each cell it is counted what its rows below a number changed
pub record AreMovedBelow (before stage : Stage) (item : Aggregate) (rows : ℕ) (counted : CountedMoves) : Type 0 where
  pub cells : length counted.cells ≡ cells_in stage
  pub each : (cell : ℕ) (moves : RowMoves) → slice_get counted.cells cell ≡ Some moves → AreMoved
      (pairs_in_cell_below before.query item cell before.frame before.known rows)
      (pairs_in_cell_below stage.query item cell stage.frame stage.known rows) moves

-- with a row that came to count for certain, or left, or did not move
abbrev pub moved_by : Bool → Bool → ℤ → ℤ → RowMoves → RowMoves
moved_by came left low high moves = if came then with_came moves low high else (if left then with_left moves low high else moves)

-- such a row was counted in a cell, and all else is as it was
pub record IsRowMoved (old new : CountedMoves) (cell : ℕ) (came left : Bool) (low high : ℤ) : Type 0 where
  pub room : new.room ≡ old.room
  pub count : length new.cells ≡ length old.cells
  pub others : (other : ℕ) → other ≢ cell → slice_get new.cells other ≡ slice_get old.cells other
  pub counted : (moves : RowMoves) → AreFewMoves moves → slice_get old.cells cell ≡ Some moves
      → slice_get new.cells cell ≡ Some (moved_by came left low high moves)

-- there an item's cells stood for its rows
pub record WereMoved (stage : Stage) (item : Aggregate) (must may : List Bool) (running : Tallies) : Type 0 where
  pub before : Stage
  pub step : IsMovedFrom stage item before
  pub rows : WereRows before must may
  pub stood : StandForCells before item running

-- the stage before the last plane of a column by which no rows are grouped, and the rows of the condition there
pub record WasBefore (stage : Stage) (column : ℕ) (must may : List Bool) (before : Stage) : Type 0 where
  pub bits : List Bool
  pub open_stage : IsOpenStage before
  pub legal : CanTake before.frame before.known column bits
  pub read : stage ≡ stepped before column bits
  pub cells_stay : is_group (groups_of before.query.shape) column ≡ false
  pub rows : WereRows before must may

-- an item's cells stood for its rows there, whether it reads the column or not
pub record WereBefore (stage : Stage) (item : Aggregate) (column : ℕ) (must may : List Bool) (running : Tallies) : Type 0 where
  pub before : Stage
  pub was : WasBefore stage column must may before
  pub stood : StandForCells before item running

-- and those of each item
pub record WereEachBefore (stage : Stage) (column : ℕ) (must may : List Bool) (runnings : List Tallies) : Type 0 where
  pub before : Stage
  pub was : WasBefore stage column must may before
  pub stood : StandForEach before runnings
