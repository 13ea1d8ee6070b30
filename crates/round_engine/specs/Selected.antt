-- Items whose bound masks tell, and the pairs of a column's rows as masks tell them.
use Rattle.std.specs.Prelude.{◌≡◌, ℕ, ◌+◌, ◌*◌, ◌<◌, ◌≤◌, ◌||◌, Bool, true, false, List, length, map, replicate, IsTrue}
use Rattle.std.specs.List.{count_by}
use Rattle.aggregates.specs.Selections.{MayHaveValues, has_row, rows_in}
use Rattle.daq_table.specs.Tables.{Frame}
use Rattle.known_column.specs.Columns.{KnownColumn, numbers_at, rows_of_column}
use Rattle.query_model.specs.Bounds.{Pair}
use Rattle.query_model.specs.Queries.{Aggregate, Term, Column, Literal, Add, Sub, Mul}
use Rattle.round_engine.specs.declared.row_masks.RowMasks.{RowMasks}
use Rattle.round_engine.specs.declared.selection.RowCounts.{RowCounts}
use Rattle.round_engine.specs.declared.selection.Selection.{Selection}
use Rattle.round_engine.specs.Counts.{is_counted}

-- the argument is a bare column
abbrev pub is_column : Term → Bool
is_column (Column c) = true
is_column (Literal n) = false
is_column (Add a b) = false
is_column (Sub a b) = false
is_column (Mul a b) = false

-- masks tell the bound of the item: its argument is a bare column, or it counts the rows that pass
abbrev pub is_by_masks : Frame → Aggregate → Bool
is_by_masks frame item = is_column item.arg || is_counted frame item

-- the masks are of so many rows
pub record HasRows (rows : ℕ) (selection : Selection) : Type 0 where
  pub may : length selection.may ≡ rows
  pub must : length selection.must ≡ rows

-- the mask has each row
abbrev pub HasEach : List Bool → Type 0
HasEach mask = mask ≡ replicate (length mask) true

-- so many rows each mask has
pub record AreCounts (selection : Selection) (counts : RowCounts) : Type 0 where
  pub most : counts.most ≡ count_by (λ b. b) selection.may
  pub fewest : counts.fewest ≡ count_by (λ b. b) selection.must

-- the masks are of so many rows, and each of their blocks of 512 has a bit of 1
pub record HaveRows (rows : ℕ) (masks : RowMasks) : Type 0 where
  pub selection : HasRows rows masks.selection
  pub room : rows ≤ 512 * length masks.blocks
  pub tight : 512 * length masks.blocks < rows + 512
  pub each : masks.blocks ≡ replicate (length masks.blocks) true

-- rows of a column that may have values, and among them those that surely count
pub record IsSelection (column : KnownColumn) (selection : Selection) : Type 0 where
  pub rows : HasRows (rows_of_column column) selection
  pub values : MayHaveValues column selection.may
  pub nested : (row : ℕ) → IsTrue (has_row selection.must row) → IsTrue (has_row selection.may row)

-- the pair of a row: whether a mask has it, and where its number lies
abbrev pub pair_in : KnownColumn → List Bool → ℕ → Pair
pair_in column must row =
    record { certain = has_row must row; low = (numbers_at column row).low; high = (numbers_at column row).high }

-- the pairs of the rows that may give a value
abbrev pub pairs_in : KnownColumn → Selection → List Pair
pairs_in column selection = map (pair_in column selection.must) (rows_in selection.may)
