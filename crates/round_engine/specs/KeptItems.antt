-- What is kept of the items of a query without groups and order: of sums, and of extremes over bare columns.
use Rattle.std.specs.Prelude.{◌≡◌, ℕ, Bool, ◌&&◌, List, map, IfSome}
use Rattle.std.specs.Simd.Lanes.{zip2}
use Rattle.aggregates.specs.declared.extreme_rows.Extreme.{Extreme}
use Rattle.aggregates.specs.declared.extreme_rows.Extreme.TheVariants.{Least, Greatest}
use Rattle.aggregates.specs.declared.kept_extreme.KeptExtreme.{KeptExtreme}
use Rattle.aggregates.specs.KeptExtremes.{HoldAll, HoldCandidates}
use Rattle.kleene_filter.specs.Filters.{is_certain, is_possible, truths_under}
use Rattle.known_column.specs.Columns as column
use Rattle.known_column.specs.Columns.{is_sure, rows_where}
use Rattle.known_column.specs.KnownTables.{column_at}
use Rattle.query_model.specs.declared.query.ItemKind.{ItemKind}
use Rattle.query_model.specs.declared.query.ItemKind.TheVariants.{Avg, Count, Max, Min, Sum}
use Rattle.query_model.specs.Queries.{Aggregate, Column}
use Rattle.round_engine.specs.declared.kept_items.KeptItem.{KeptItem}
use Rattle.round_engine.specs.KeptSums.{columns_of, IsOpenSum, IsSumOf}
use Rattle.round_engine.specs.Stages.{Stage}
use Rattle.round_engine.specs.Totals.{AreEach}

-- the rows that may give a value of the column, and those that surely do
abbrev pub may_give : Stage → ℕ → List Bool
may_give stage c =
    zip2 (λ a b. a && b) (map is_possible (truths_under stage.query.pred (columns_of stage)))
    (rows_where column.is_possible (column_at (columns_of stage) c))

abbrev pub surely_give : Stage → ℕ → List Bool
surely_give stage c =
    zip2 (λ a b. a && b) (map is_certain (truths_under stage.query.pred (columns_of stage)))
    (rows_where is_sure (column_at (columns_of stage) c))

-- the extreme that an item of this kind asks for, if it asks for one
abbrev pub extreme_of : ItemKind → Extreme
extreme_of Count = Least
extreme_of Sum = Least
extreme_of Avg = Least
extreme_of Min = Least
extreme_of Max = Greatest

-- what is kept of an extreme is that of the column: outside its blocks no row can be extreme, now or after further planes
abbrev pub IsExtremeOf : Stage → ItemKind → ℕ → KeptExtreme → Type 0
IsExtremeOf stage kind c kept =
    HoldCandidates (extreme_of kind) (column_at (columns_of stage) c) (may_give stage c) (surely_give stage c) kept

-- what is kept of an item, if anything is, is that of its column
pub record IsKeptOf (stage : Stage) (item : Aggregate) (kept : KeptItem) : Type 0 where
  pub sum : IfSome kept.sum (λ sum. (c : ℕ) → item.arg ≡ Column c → IsSumOf stage c sum)
  pub extreme : IfSome kept.extreme (λ extreme. (c : ℕ) → item.arg ≡ Column c → IsExtremeOf stage item.kind c extreme)

abbrev pub AreKept : Stage → List KeptItem → Type 0
AreKept stage kept = AreEach (λ i item kept. IsKeptOf stage item kept) stage.query.items kept

-- what is kept where nothing is read, of any column of so many rows
pub record IsOpenKept (rows : ℕ) (kept : KeptItem) : Type 0 where
  pub sum : IfSome kept.sum (IsOpenSum rows)
  pub extreme : IfSome kept.extreme (HoldAll rows)

abbrev pub HoldItems : ℕ → List Aggregate → List KeptItem → Type 0
HoldItems rows items kept = AreEach (λ i item kept. IsOpenKept rows kept) items kept
