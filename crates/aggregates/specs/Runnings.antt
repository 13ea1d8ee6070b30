-- Bounds of several cells, to each of which pairs are added one by one.
use Rattle.std.specs.Prelude.{◌≡◌, ◌≢◌, ℕ, ◌<◌, List, [], ◌∷◌, ◌++◌, length, slice_get, Some}
use Rattle.query_model.specs.declared.query.ItemKind.{ItemKind}
use Rattle.query_model.specs.Bounds.{Pair}
use Rattle.aggregates.specs.declared.tally.Tally.{Tally}
use Rattle.aggregates.specs.Tallies.{AreOrdered, tally_of, MayGet}

-- the kind of the item, the greatest number of cells, and what is kept of each cell
pub record Tallies : Type 0 where
  pub kind : ItemKind
  pub room : ℕ
  pub cells : List Tally

-- the cell stands for this list of pairs: what is kept of the cell is what is to be kept of the list
pub record StandsFor (running : Tallies) (cell : ℕ) (ps : List Pair) : Type 0 where
  pub kept : slice_get running.cells cell ≡ Some (tally_of running.kind ps)
  pub ordered : AreOrdered ps

-- there are so many cells, and each stands for no pair
pub record IsBlank (running : Tallies) (kind : ItemKind) (room cells : ℕ) : Type 0 where
  pub kind_is : running.kind ≡ kind
  pub room_is : running.room ≡ room
  pub count : length running.cells ≡ cells
  pub blank : (cell : ℕ) → cell < cells → StandsFor running cell []

-- this is kept of the cell, and all else is as it was
pub record IsSet (old new : Tallies) (cell : ℕ) (tally : Tally) : Type 0 where
  pub kind : new.kind ≡ old.kind
  pub room : new.room ≡ old.room
  pub count : length new.cells ≡ length old.cells
  pub others : (other : ℕ) → other ≢ cell → slice_get new.cells other ≡ slice_get old.cells other
  pub kept : slice_get new.cells cell ≡ Some tally

-- the cell stands for a list that may get this pair too
pub record MayAdd (running : Tallies) (cell : ℕ) (p : Pair) : Type 0 where
  pub pairs : List Pair
  pub stands : StandsFor running cell pairs
  pub may_get : MayGet running.kind pairs p

-- of each cell the same is kept as in others, and all else is as it was
pub record IsCopied (old new others : Tallies) : Type 0 where
  pub kind : new.kind ≡ old.kind
  pub room : new.room ≡ old.room
  pub count : length new.cells ≡ length others.cells
  pub each : (cell : ℕ) → cell < length others.cells → slice_get new.cells cell ≡ slice_get others.cells cell

-- the cell stands for a list that is not full
pub record MayCount (running : Tallies) (cell : ℕ) : Type 0 where
  pub pairs : List Pair
  pub stands : StandsFor running cell pairs
  pub few : length pairs < 16777216

-- the cell stands for each list for which it stood, with the pair at its end, and all else is as it was
pub record IsAdded (old new : Tallies) (cell : ℕ) (p : Pair) : Type 0 where
  pub kind : new.kind ≡ old.kind
  pub room : new.room ≡ old.room
  pub count : length new.cells ≡ length old.cells
  pub others : (other : ℕ) → other ≢ cell → slice_get new.cells other ≡ slice_get old.cells other
  pub appended : (ps : List Pair) → StandsFor old cell ps → StandsFor new cell (ps ++ p ∷ [])
