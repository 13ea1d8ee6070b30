-- The number that lies furthest toward an end.
use Rattle.std.specs.Prelude.{◌≡◌, ℕ, ◌<◌, ◌≤◌, min, max, Bool, true, false, List, length, slice_index_or}
use Rattle.std.specs.declared.option.Option.{Option}
use Rattle.std.specs.declared.option.Option.TheVariants.{Some, None}
use Rattle.known_column.specs.Columns.{KnownColumn, number_of}
use Rattle.aggregates.specs.Selections.{has_row}
use Rattle.avg_exact.specs.declared.passes.End.{End}
use Rattle.avg_exact.specs.declared.passes.End.TheVariants.{Low, High}
use Rattle.avg_exact.specs.Blocks.{lies_beyond}

-- the digits of a row's number that were read, as one number
abbrev pub number_at : KnownColumn → ℕ → ℕ
number_at column r = number_of column.ends column.known.read (slice_index_or column.known.prefixes r 0)

-- of the rows from one on and before another: some row has the number, and none has one that lies beyond it; none where there is no row
pub record IsReachedFrom (toward : End) (column : KnownColumn) (rows : List Bool) (a b n : ℕ) : Type 0 where
  pub row : ℕ
  pub from : a ≤ row
  pub below : row < b
  pub has : has_row rows row ≡ true
  pub number : number_at column row ≡ n
  pub furthest : (r : ℕ) → a ≤ r → r < b → has_row rows r ≡ true → lies_beyond toward n (number_at column r) ≡ false

abbrev pub IsFurthestFrom : End → KnownColumn → List Bool → ℕ → ℕ → Option ℕ → Type 0
IsFurthestFrom toward column rows a b None = (r : ℕ) → a ≤ r → r < b → has_row rows r ≡ false
IsFurthestFrom toward column rows a b (Some n) = IsReachedFrom toward column rows a b n

-- the same of all rows
abbrev pub IsFurthest : End → KnownColumn → List Bool → Option ℕ → Type 0
IsFurthest toward column rows found = IsFurthestFrom toward column rows 0 (length rows) found

abbrev pub further_of : End → Option ℕ → Option ℕ → Option ℕ
further_of toward None b = b
further_of toward (Some a) None = Some a
further_of Low (Some a) (Some b) = Some (min a b)
further_of High (Some a) (Some b) = Some (max a b)

-- the digit that lies further on
abbrev pub wanted : End → Bool
wanted Low = false
wanted High = true
