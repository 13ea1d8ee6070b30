-- The rows of a block, as pairs that are added to a cell at once.
use Rattle.std.specs.Prelude.{◌≡◌, ◌≢◌, ℕ, ◌+◌, ◌≤◌, List, ◌++◌, length, slice_get, if◌then◌else◌}
use Rattle.std.specs.declared.option.Option.{Option}
use Rattle.std.specs.declared.option.Option.TheVariants.{None}
use Rattle.std.specs.List.{filter_map, range_with_len}
use Rattle.std.specs.Option.{option_map}
use Rattle.interval_calc.specs.declared.Interval as code
use Rattle.plane_kernels.specs.Rows.{digit_at}
use Rattle.query_model.specs.declared.query.ItemKind.{ItemKind}
use Rattle.query_model.specs.Bounds.{Pair}
use Rattle.query_model.specs.Laws.{SumsFit}
use Rattle.query_model.specs.Validity.{IsSumKind}
use Rattle.aggregates.specs.declared.tally.Tally.{Tally}
use Rattle.aggregates.specs.Tallies.{AreOrdered, pair_with, tally_of}
use Rattle.aggregates.specs.Runnings.{StandsFor, Tallies}

-- the pair of a row, which may count where its bit in the first word is 1, and counts for certain where besides its bit in the second is
abbrev pub pair_in : ℕ → ℕ → List code.Interval → ℕ → Option Pair
pair_in may must spans row = if digit_at row may then option_map (pair_with (digit_at row must)) (slice_get spans row) else None

-- the pairs of the rows with these spans, in order
abbrev pub pairs_in : ℕ → ℕ → List code.Interval → List Pair
pairs_in may must spans = filter_map (pair_in may must spans) (range_with_len 0 (length spans))

-- the list may get these pairs too
pub record MayGetAll (kind : ItemKind) (ps qs : List Pair) : Type 0 where
  pub few : length ps + length qs ≤ 16777216
  pub fits : IsSumKind kind → SumsFit (ps ++ qs)

-- what is kept is that of some list that may get them
pub record HasRoom (kind : ItemKind) (tally : Tally) (qs : List Pair) : Type 0 where
  pub pairs : List Pair
  pub kept : tally ≡ tally_of kind pairs
  pub ordered : AreOrdered pairs
  pub may_get : MayGetAll kind pairs qs

-- the cell stands for a list that may get them
pub record MayAddAll (running : Tallies) (cell : ℕ) (qs : List Pair) : Type 0 where
  pub pairs : List Pair
  pub stands : StandsFor running cell pairs
  pub may_get : MayGetAll running.kind pairs qs

-- the cell stands for each list for which it stood, with these pairs at its end, and all else is as it was
pub record AreAllAdded (old new : Tallies) (cell : ℕ) (qs : List Pair) : Type 0 where
  pub kind : new.kind ≡ old.kind
  pub room : new.room ≡ old.room
  pub count : length new.cells ≡ length old.cells
  pub others : (other : ℕ) → other ≢ cell → slice_get new.cells other ≡ slice_get old.cells other
  pub appended : (ps : List Pair) → StandsFor old cell ps → StandsFor new cell (ps ++ qs)
