-- Sums that are kept of the items of a query without groups and order.
use Rattle.std.specs.Prelude.{◌≡◌, ℕ, ◌+◌, ◌*◌, ◌<◌, ◌≤◌, false, length}
use Rattle.aggregates.specs.declared.kept_sum.KeptSum.{KeptSum}
use Rattle.aggregates.specs.KeptSums.{IsKept, MovesAnywhere}
use Rattle.aggregates.specs.Selections.{has_row}
use Rattle.kleene_filter.specs.Filters.{is_certain, is_possible, truth_at}
use Rattle.known_column.specs.Columns.{KnownColumn, rows_of_column}
use Rattle.known_column.specs.KnownTables.{KnownTable, column_at}
use Rattle.round_engine.specs.Stages.{Stage}

-- what is known of the stage's columns
abbrev pub columns_of : Stage → KnownTable
columns_of stage = record { frame = stage.frame; known = stage.known }

-- the column is never null, and the condition is decided at the row: it holds where what is kept has the row
pub record IsSettledAt (stage : Stage) (column row : ℕ) (kept : KeptSum) : Type 0 where
  pub plain : (column_at (columns_of stage) column).ends.nullable ≡ false
  pub certain : has_row kept.mask row ≡ is_certain (truth_at stage.query.pred (columns_of stage) row)
  pub possible : has_row kept.mask row ≡ is_possible (truth_at stage.query.pred (columns_of stage) row)

-- what is kept is that of the column, and no row moves but in its blocks of 512
pub record IsSumOf (stage : Stage) (column : ℕ) (kept : KeptSum) : Type 0 where
  pub is : IsKept (column_at (columns_of stage) column) kept
  pub room : stage.frame.rows ≤ 512 * length kept.blocks
  pub tight : 512 * length kept.blocks < stage.frame.rows + 512
  pub settled : (block j : ℕ) → j < 512 → 512 * block + j < stage.frame.rows → has_row kept.blocks block ≡ false →
      IsSettledAt stage column (512 * block + j) kept

-- what is kept of no row, of any column of so many
pub record IsOpenSum (rows : ℕ) (kept : KeptSum) : Type 0 where
  pub is : (column : KnownColumn) → rows_of_column column ≡ rows → IsKept column kept
  pub moves : MovesAnywhere rows kept
