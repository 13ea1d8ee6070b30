-- What is told of a cell of groups, and that it is so of each of its keys.
use Rattle.std.specs.Prelude.{◌≡◌, ◌≢◌, ℕ, ◌<◌, List, [], ◌∷◌, map}
use Rattle.interval_calc.specs.Intervals.{Within}
use Rattle.daq_table.specs.Tables.{Frame, ends_at}
use Rattle.query_model.specs.declared.bounds.Bound.{Bound}
use Rattle.query_model.specs.declared.bounds.Nullity.{Nullity}
use Rattle.query_model.specs.declared.bounds.Nullity.TheVariants.{Always}
use Rattle.query_model.specs.Answers.{Key, groups_of}
use Rattle.query_model.specs.Bounds.{AverageBound, absence_of, average_bound_of, average_under, bound_of, bound_under}
use Rattle.query_model.specs.Groups.{IsKeyOf, cell_count, pairs_in_cell, presence_in_cell}
use Rattle.query_model.specs.Queries.{Aggregate}
use Rattle.query_model.specs.Truths.{Range}
use Rattle.query_model.specs.Validity.{declared_range}
use Rattle.row_groups.specs.Partition.{IsKeyIn, part_under, ranges_of_cell}
use Rattle.row_groups.specs.declared.part.GroupPart.{GroupPart}
use Rattle.round_engine.specs.Stages.{Stage}

-- the group columns, and how many planes of each are read
abbrev pub parts_in : Stage → List GroupPart
parts_in stage = map (part_under stage.frame stage.known) (groups_of stage.query.shape)

-- how many cells there are
abbrev pub cells_in : Stage → ℕ
cells_in stage = cell_count stage.known (groups_of stage.query.shape)

-- the bound of an item in a cell
abbrev pub bound_in_cell : Stage → Aggregate → ℕ → Bound
bound_in_cell stage item cell = bound_of item.kind (pairs_in_cell stage.query item cell stage.frame stage.known)

abbrev pub average_in_cell : Stage → Aggregate → ℕ → AverageBound
average_in_cell stage item cell = average_bound_of (pairs_in_cell stage.query item cell stage.frame stage.known)

-- whether the cell's keys are missing in the result
abbrev pub absence_in_cell : Stage → ℕ → Nullity
absence_in_cell stage cell = presence_in_cell stage.query cell stage.frame stage.known

-- the key belongs to the cell
abbrev pub IsInCell : Stage → ℕ → Key → Type 0
IsInCell stage cell key = IsKeyOf stage.frame stage.known (groups_of stage.query.shape) cell key

-- what is told of the cell is so of the key: each part of the key is in its range, and bounds and absence are the key's
pub record SpeaksFor (stage : Stage) (cell : ℕ) (key : Key) : Type 0 where
  pub ranges : IsKeyIn (ranges_of_cell (parts_in stage) cell) key
  pub bound : (item : Aggregate) → bound_in_cell stage item cell ≡ bound_under stage.query item key stage.frame stage.known
  pub average : (item : Aggregate) → average_in_cell stage item cell ≡ average_under stage.query item key stage.frame stage.known
  pub absence : absence_in_cell stage cell ≡ absence_of stage.query key stage.frame stage.known

-- the key has one cell, and what is told of that cell is so of it
pub record HasCell (stage : Stage) (key : Key) : Type 0 where
  pub cell : ℕ
  pub counted : cell < cells_in stage
  pub belongs : IsInCell stage cell key
  pub only : (other : ℕ) → other < cells_in stage → IsInCell stage other key → other ≡ cell
  -- of the cells that are told, its own alone has it in its ranges
  pub apart : (other : ℕ) → other < cells_in stage → absence_in_cell stage other ≢ Always →
      IsKeyIn (ranges_of_cell (parts_in stage) other) key → other ≡ cell
  pub speaks : SpeaksFor stage cell key

-- the ends of each range are numbers that the column may have
abbrev pub AreDeclared : Frame → List ℕ → List Range → Type 0
AreDeclared frame [] ranges = Unit {0}
AreDeclared frame (c ∷ cs) [] = Unit {0}
AreDeclared frame (c ∷ cs) (range ∷ ranges) =
    Within (declared_range (ends_at frame c)).numbers range.numbers.low
    × Within (declared_range (ends_at frame c)).numbers range.numbers.high
    × AreDeclared frame cs ranges
