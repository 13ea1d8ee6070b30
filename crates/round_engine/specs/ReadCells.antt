-- Sums of many cells before the next plane of their column and behind it, where the plane moves no rows.
use Rattle.std.specs.Prelude.{◌≡◌, ◌≢◌, ℕ, ◌+◌, ◌*◌, ◌^◌, ◌<◌, ◌&&◌, Bool, false, cond, List, length, get_or, slice_get}
use Rattle.std.specs.declared.option.Option.TheVariants.{Some}
use Rattle.aggregates.specs.Runnings.{Tallies}
use Rattle.digit_sums.specs.declared.ends.DigitEnds.{DigitEnds}
use Rattle.digit_sums.specs.declared.ones.RowBits.{RowBits}
use Rattle.digit_sums.specs.Ones.{AreRead, CountedBits, with_row}
use Rattle.kleene_filter.specs.Filters.{is_certain, is_possible}
use Rattle.known_column.specs.Columns.{KnownColumn, count_in_block, is_at_top}
use Rattle.plane_kernels.specs.Rows.{digit_at}
use Rattle.query_model.specs.Answers.{groups_of}
use Rattle.query_model.specs.Groups.{cell_of, holds_one_key, pairs_in_cell_below}
use Rattle.query_model.specs.Knowledge.{ranges_of}
use Rattle.query_model.specs.Queries.{Aggregate, Column}
use Rattle.query_model.specs.Truths.{truth_of}
use Rattle.round_engine.specs.declared.read_cells.BlockWords.{BlockWords}
use Rattle.round_engine.specs.CellAnswers.{StandForCells, StandForEach, moves_rows}
use Rattle.round_engine.specs.Cells.{cells_in}
use Rattle.round_engine.specs.Stages.{IsOpenStage, Stage, stepped}

-- the stage before the last plane of a column, with these bits: no condition reads the column and no rows are grouped by it
pub record IsReadFrom (stage : Stage) (column : ℕ) (bits : List Bool) (before : Stage) : Type 0 where
  pub open_stage : IsOpenStage before
  pub read : stage ≡ stepped before column bits
  pub stays : moves_rows before.query column ≡ false

-- the column is the item's own
pub record IsBefore (stage : Stage) (item : Aggregate) (bits : List Bool) (before : Stage) : Type 0 where
  pub column : ℕ
  pub arg : item.arg ≡ Column column
  pub step : IsReadFrom stage column bits before

-- an item's cells stood for its rows there
pub record WereCells (stage : Stage) (item : Aggregate) (column : ℕ) (bits : List Bool) (running : Tallies) : Type 0 where
  pub before : Stage
  pub step : IsReadFrom stage column bits before
  pub stood : StandForCells before item running

-- and those of each item
pub record WereEach (stage : Stage) (column : ℕ) (bits : List Bool) (runnings : List Tallies) : Type 0 where
  pub before : Stage
  pub step : IsReadFrom stage column bits before
  pub stood : StandForEach before runnings

-- of each cell it is counted what the plane adds to its rows below a number; it is told which cells hold one key
pub record AreReadBelow (before stage : Stage) (item : Aggregate) (ends : DigitEnds) (single : List Bool) (rows : ℕ)
    (counted : CountedBits) : Type 0 where
  pub cells : length counted.cells ≡ cells_in stage
  pub highs : length counted.highs ≡ cells_in stage
  pub each : (cell : ℕ) (bits : RowBits) (high : ℕ) → slice_get counted.cells cell ≡ Some bits → slice_get counted.highs cell ≡ Some high
      → AreRead ends (get_or single cell false) (pairs_in_cell_below before.query item cell before.frame before.known rows)
      (pairs_in_cell_below stage.query item cell stage.frame stage.known rows) bits high

-- a row was counted in a cell: one that surely counts by its bit and by whether it is at top, another by where its value ends
pub record IsRowAdded (old new : CountedBits) (cell : ℕ) (sure one top : Bool) (high : ℕ) : Type 0 where
  pub room : new.room ≡ old.room
  pub cells : length new.cells ≡ length old.cells
  pub highs : length new.highs ≡ length old.highs
  pub others : (other : ℕ) → other ≢ cell → slice_get new.cells other ≡ slice_get old.cells other
  pub other_highs : (other : ℕ) → other ≢ cell → slice_get new.highs other ≡ slice_get old.highs other
  pub counted : (bits : RowBits) → bits.ones < 16777216 → bits.at_top < 16777216 → slice_get old.cells cell ≡ Some bits
      → slice_get new.cells cell ≡ Some (with_row bits (sure && one) (sure && top))
  pub ended : (sum : ℕ) → sum + high < 2 ^ 64 → slice_get old.highs cell ≡ Some sum
      → slice_get new.highs cell ≡ Some (sum + cond sure 0 high)

-- the words of a block of rows, of which the last may have fewer than 64: at which the condition may hold and surely holds, which have the
-- bit of 1 in the plane, and which are at top
pub record AreBlockWords (stage : Stage) (known : KnownColumn) (bits : List Bool) (number : ℕ) (words : BlockWords) : Type 0 where
  pub may_bit : (r : ℕ) → r < count_in_block number stage.frame.rows
      → digit_at r words.may ≡ is_possible (truth_of stage.query.pred (ranges_of stage.frame stage.known (64 * number + r)))
  pub must_bit : (r : ℕ) → r < count_in_block number stage.frame.rows
      → digit_at r words.must ≡ is_certain (truth_of stage.query.pred (ranges_of stage.frame stage.known (64 * number + r)))
  pub one_bit : (r : ℕ) → r < count_in_block number stage.frame.rows → digit_at r words.ones ≡ get_or bits (64 * number + r) false
  pub top_bit : (r : ℕ) → r < count_in_block number stage.frame.rows
      → digit_at r words.top ≡ is_at_top known.ends known.known.read (get_or known.known.prefixes (64 * number + r) 0)
  pub may_fits : words.may < 2 ^ count_in_block number stage.frame.rows
  pub must_fits : words.must < 2 ^ count_in_block number stage.frame.rows

-- each row of a block has its cell
pub record AreBlockCells (stage : Stage) (single : List Bool) (number : ℕ) (cells : List ℕ) : Type 0 where
  pub is : (r : ℕ) → r < count_in_block number stage.frame.rows
      → get_or cells r 0 ≡ cell_of stage.known (groups_of stage.query.shape) (64 * number + r)
  pub inside : (r : ℕ) → r < count_in_block number stage.frame.rows → get_or cells r 0 < cells_in stage
  pub alone : (r : ℕ) → r < count_in_block number stage.frame.rows
      → get_or single (get_or cells r 0) false
      ≡ holds_one_key (groups_of stage.query.shape) (ranges_of stage.frame stage.known (64 * number + r))
