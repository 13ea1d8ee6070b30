-- The rows of one cell, or of each of few, as masks.
use Rattle.std.specs.Prelude.{◌≡◌, ℕ, ◌<◌, ◌==◌, Bool, false, List, length, map, replicate}
use Rattle.std.specs.List.{range_with_len}
use Rattle.query_model.specs.Answers.{groups_of}
use Rattle.query_model.specs.Groups.{cell_of, holds_one_key}
use Rattle.query_model.specs.Knowledge.{ranges_of}
use Rattle.round_engine.specs.declared.one_cell.CellMasks.{CellMasks}
use Rattle.round_engine.specs.Cells.{cells_in}
use Rattle.round_engine.specs.Selected.{HasRows}
use Rattle.round_engine.specs.Stages.{Stage}

-- there is one cell, and it is told whether it holds one key
pub record IsAlone (stage : Stage) (single : Bool) : Type 0 where
  pub one : cells_in stage ≡ 1
  pub told : (row : ℕ) → row < stage.frame.rows →
      holds_one_key (groups_of stage.query.shape) (ranges_of stage.frame stage.known row) ≡ single

-- the masks are of so many rows, and one has none of them
pub record HoldMasks (rows : ℕ) (masks : CellMasks) : Type 0 where
  pub selection : HasRows rows masks.selection
  pub added : length masks.added ≡ rows
  pub none : masks.none ≡ replicate rows false

-- a mask has the rows of a cell, and it is told whether the cell holds one key
pub record IsPart (stage : Stage) (cell : ℕ) (single : Bool) (within : List Bool) : Type 0 where
  pub rows : within ≡ map (λ r. cell_of stage.known (groups_of stage.query.shape) r == cell) (range_with_len 0 stage.frame.rows)
  pub told : (row : ℕ) → row < stage.frame.rows → cell_of stage.known (groups_of stage.query.shape) row ≡ cell →
      holds_one_key (groups_of stage.query.shape) (ranges_of stage.frame stage.known row) ≡ single
