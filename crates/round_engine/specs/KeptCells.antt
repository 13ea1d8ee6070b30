-- What is kept of few cells, item by item: of a sum over a bare column what its first planes gave in each, or of a product.
use Rattle.std.specs.Prelude.{◌≡◌, ℕ, ◌+◌, ◌*◌, ◌<◌, ◌≤◌, Bool, List, length, IfSome}
use Rattle.std.specs.declared.option.Option.{Option}
use Rattle.std.specs.List.{All}
use Rattle.aggregates.specs.declared.kept_sum.KeptSum.{KeptSum}
use Rattle.aggregates.specs.KeptSums.{IsKept, MovesAnywhere}
use Rattle.known_column.specs.Columns.{KnownColumn, rows_of_column}
use Rattle.known_column.specs.KnownTables.{KnownTable, column_at}
use Rattle.product_sums.specs.KeptProducts.{IsKeptProduct}
use Rattle.query_model.specs.Queries.{Aggregate, Column}
use Rattle.round_engine.specs.declared.kept_cells.KeptCells.{KeptCells}
use Rattle.round_engine.specs.declared.kept_cells.KeptParts.{KeptParts}
use Rattle.round_engine.specs.Selected.{HasEach}
use Rattle.round_engine.specs.Totals.{AreEach}

-- there is a bit for each block of 512 of so many rows, and each is 1
pub record HaveBlocks (rows : ℕ) (blocks : List Bool) : Type 0 where
  pub room : rows ≤ 512 * length blocks
  pub tight : 512 * length blocks < rows + 512
  pub each : HasEach blocks

-- the sum is one of the column, whose rows may move in each block
pub record MayMove (column : KnownColumn) (sum : KeptSum) : Type 0 where
  pub is : IsKept column sum
  pub moves : MovesAnywhere (rows_of_column column) sum

-- so are those of all cells
pub record AreCellSums (column : KnownColumn) (kept : KeptCells) : Type 0 where
  pub sums : All (MayMove column) kept.sums.items
  pub blocks : HaveBlocks (rows_of_column column) kept.blocks

-- what is kept of an item's sums, if anything is, is that of its column
abbrev pub AreSumsOf : KnownTable → Aggregate → Option KeptCells → Type 0
AreSumsOf columns item sums = IfSome sums (λ sums. (c : ℕ) → item.arg ≡ Column c → AreCellSums (column_at columns c) sums)

-- what is kept of an item is that of these columns
pub record AreKeptParts (columns : KnownTable) (item : Aggregate) (kept : KeptParts) : Type 0 where
  pub product : IfSome kept.product (IsKeptProduct columns item.arg)
  pub sums : AreSumsOf columns item kept.sums

-- so it is of each item
abbrev pub HaveKeptParts : KnownTable → List Aggregate → List KeptParts → Type 0
HaveKeptParts columns items kept = AreEach (λ i item parts. AreKeptParts columns item parts) items kept
