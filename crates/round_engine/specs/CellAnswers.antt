-- The answers of a query with groups, cell by cell: for each item and each cell what its bound is computed from.
use Rattle.std.specs.Prelude.{◌≡◌, ◌≢◌, ℕ, ◌<◌, ◌^◌, Bool, true, ◌||◌, List, length, map, slice_get, IsTrue}
use Rattle.std.specs.declared.option.Option.TheVariants.{Some}
use Rattle.std.specs.List.{list_all, sum}
use Rattle.daq_table.specs.Tables.{ends_at, planes}
use Rattle.aggregates.specs.Runnings.{StandsFor, Tallies}
use Rattle.kleene_filter.specs.Filters.{stands_in}
use Rattle.query_model.specs.Answers.{every_row, groups_of}
use Rattle.query_model.specs.Groups.{is_one_value, pairs_in_cell_below, truth_in_cell}
use Rattle.query_model.specs.Knowledge.{CanTake, ranges_of}
use Rattle.query_model.specs.Meaning.{columns_of_pred}
use Rattle.query_model.specs.Bounds.{Pair, average_bound_of, pair_by}
use Rattle.query_model.specs.declared.query.ItemKind.TheVariants.{Avg}
use Rattle.query_model.specs.Queries.{Aggregate, Query}
use Rattle.query_model.specs.Truths.{and_of, truth_of}
use Rattle.std.specs.declared.option.Option.{Option}
use Rattle.row_groups.specs.declared.part.GroupPart.{GroupPart}
use Rattle.row_groups.specs.Partition.{AreCells, RowCells, digits_of, is_group, is_legal_cell, ranges_of_cell}
use Rattle.round_engine.specs.declared.groups.Groups.{Groups}
use Rattle.round_engine.specs.Cells.{cells_in}
use Rattle.round_engine.specs.KeptCells.{HaveKeptParts}
use Rattle.round_engine.specs.KeptSums.{columns_of}
use Rattle.round_engine.specs.Moves.{is_marked}
use Rattle.round_engine.specs.Narrowness.{FitsNarrow}
use Rattle.round_engine.specs.OneCell.{HoldMasks}
use Rattle.round_engine.specs.SeenRows.{HoldSeen, WereRows}
use Rattle.round_engine.specs.Stages.{IsGrouped, IsOpenStage, Stage, stepped}
use Rattle.round_engine.specs.Totals.{AreEach}

-- ---- cells of one key

-- each part of the cell's keys is one value
abbrev pub has_one_key : List GroupPart → ℕ → Bool
has_one_key parts cell = list_all is_one_value (ranges_of_cell parts cell)

-- of each cell that has keys it is told whether it has one alone
abbrev pub TellSingle : List GroupPart → List Bool → Type 0
TellSingle parts single =
    (cell : ℕ) → cell < 2 ^ digits_of parts → IsTrue (is_legal_cell parts cell) →
    slice_get single cell ≡ Some (has_one_key parts cell)

-- ---- the rows by cells

-- how many cells there are where all planes are read
abbrev pub most_cells : Stage → ℕ
most_cells stage = 2 ^ sum (map (λ c. planes (ends_at stage.frame c)) (groups_of stage.query.shape))

-- each row is in its cell, and of each cell it is told whether it holds one key
pub record IsParted (stage : Stage) (cells : RowCells) (single : List Bool) : Type 0 where
  pub cells_are : AreCells stage.frame stage.known (groups_of stage.query.shape) cells
  pub single_are : TellSingle cells.parts single
  pub room : length single ≡ most_cells stage

-- the pair of a row for each key of its cell
abbrev pub pair_in_own_cell : Stage → Aggregate → ℕ → Option Pair
pair_in_own_cell stage item row =
    let ranges = ranges_of stage.frame stage.known row in
    pair_by (and_of (truth_of stage.query.pred ranges) (truth_in_cell (groups_of stage.query.shape) ranges)) item ranges

-- ---- the pairs of cells

-- there is room for the pairs of each cell
pub record HasRoom (stage : Stage) (item : Aggregate) (running : Tallies) : Type 0 where
  pub kind : running.kind ≡ item.kind
  pub room : running.room ≡ most_cells stage

-- each cell stands for the item's pairs of its rows below a number
pub record StandBelow (stage : Stage) (item : Aggregate) (rows : ℕ) (running : Tallies) : Type 0 where
  pub has_room : HasRoom stage item running
  pub cells : length running.cells ≡ cells_in stage
  pub stands : (cell : ℕ) → cell < cells_in stage →
      StandsFor running cell (pairs_in_cell_below stage.query item cell stage.frame stage.known rows)

-- of all rows
abbrev pub StandForCells : Stage → Aggregate → Tallies → Type 0
StandForCells stage item running = StandBelow stage item stage.frame.rows running

-- there is room, and what is not marked stands for the pairs of all rows
pub record StandBeside (mark : Bool) (stage : Stage) (item : Aggregate) (running : Tallies) : Type 0 where
  pub has_room : HasRoom stage item running
  pub stands : mark ≢ true → StandForCells stage item running

-- of each item there is one
abbrev pub StandForEach : Stage → List Tallies → Type 0
StandForEach stage runnings = AreEach (λ i item running. StandForCells stage item running) stage.query.items runnings

-- but for the marked ones, for which there is room
abbrev pub StandForOthers : Stage → List Bool → List Tallies → Type 0
StandForOthers stage marks runnings =
    AreEach (λ i item running. StandBeside (is_marked marks i) stage item running) stage.query.items runnings

-- there is room for so many cells of each item
abbrev pub HaveCells : List Aggregate → ℕ → List Tallies → Type 0
HaveCells items most runnings = AreEach (λ i item running. (running.kind ≡ item.kind) × (running.room ≡ most)) items runnings

-- ---- the answers

-- the rows are parted, the count of rows and each item stand for the pairs of each cell, what is kept is that of these columns, and
-- the rows of the condition are those of the stage
pub record AreGroups (stage : Stage) (groups : Groups) : Type 0 where
  pub grouped : IsGrouped stage.query.shape
  pub parted : IsParted stage groups.cells groups.single.items
  pub presence : StandForCells stage every_row groups.presence
  pub items : StandForEach stage groups.runnings.items
  pub masks : HoldMasks stage.frame.rows groups.masks
  pub seen : WereRows stage groups.seen.must groups.seen.may
  pub kept : HaveKeptParts (columns_of stage) stage.query.items groups.kept.items

-- the rows are parted, and there is room for all else
pub record HoldGroups (stage : Stage) (groups : Groups) : Type 0 where
  pub grouped : IsGrouped stage.query.shape
  pub parted : IsParted stage groups.cells groups.single.items
  pub presence : HasRoom stage every_row groups.presence
  pub items : HaveCells stage.query.items (most_cells stage) groups.runnings.items
  pub masks : HoldMasks stage.frame.rows groups.masks
  pub seen : HoldSeen stage.frame.rows groups.seen
  pub kept : HaveKeptParts (columns_of stage) stage.query.items groups.kept.items

-- they were the answers before the next plane of a column was read
pub record WereGroups (stage : Stage) (column : ℕ) (bits : List Bool) (groups : Groups) : Type 0 where
  pub before : Stage
  pub open_stage : IsOpenStage before
  pub answered : AreGroups before groups
  pub legal : CanTake before.frame before.known column bits
  pub read : stage ≡ stepped before column bits

-- they are the answers of an open stage
pub record AreSomeGroups (groups : Groups) : Type 0 where
  pub stage : Stage
  pub open_stage : IsOpenStage stage
  pub answered : AreGroups stage groups

-- and the stage has this cell
pub record HasCell (groups : Groups) (cell : ℕ) : Type 0 where
  pub stage : Stage
  pub answered : AreGroups stage groups
  pub within : cell < cells_in stage

-- which is open
pub record HasOpenCell (groups : Groups) (cell : ℕ) : Type 0 where
  pub stage : Stage
  pub open_stage : IsOpenStage stage
  pub answered : AreGroups stage groups
  pub within : cell < cells_in stage

-- and an item of this form
pub record HasItem (groups : Groups) (cell item : ℕ) (IsForm : Aggregate → Type 0) : Type 0 where
  pub stage : Stage
  pub answered : AreGroups stage groups
  pub within : cell < cells_in stage
  pub aggregate : Aggregate
  pub at : slice_get stage.query.items item ≡ Some aggregate
  pub form : IsForm aggregate

-- the cell stands for a list of pairs, of which the cross products of an average fit
pub record FitsInCell (width cell : ℕ) (running : Tallies) : Type 0 where
  pub pairs : List Pair
  pub stands : StandsFor running cell pairs
  pub fits : running.kind ≡ Avg → FitsNarrow width (average_bound_of pairs)

-- the condition reads the column, or the rows are grouped by it: rows come into cells, go out of them or become certain in them
abbrev pub moves_rows : Query → ℕ → Bool
moves_rows query column = stands_in (columns_of_pred query.pred) column || is_group (groups_of query.shape) column
