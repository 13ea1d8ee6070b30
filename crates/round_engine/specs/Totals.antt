-- The answers of a query without groups and order: for each item the bound of its pairs.
use Rattle.std.specs.Prelude.{◌≡◌, ◌≢◌, ℕ, Bool, true, false, not, ◌&&◌, List, [], length, slice_get}
use Rattle.std.specs.declared.option.Option.{Option}
use Rattle.std.specs.declared.option.Option.TheVariants.{Some}
use Rattle.aggregates.specs.declared.tally.Tally.{Tally}
use Rattle.aggregates.specs.Runnings.{IsBlank, StandsFor, Tallies}
use Rattle.query_model.specs.declared.bounds.AverageBound.{AverageBound}
use Rattle.query_model.specs.declared.bounds.Bound.{Bound}
use Rattle.query_model.specs.Queries.{Aggregate}
use Rattle.query_model.specs.declared.query.ItemKind.{ItemKind}
use Rattle.query_model.specs.declared.query.ItemKind.TheVariants.{Avg}
use Rattle.query_model.specs.Bounds.{Pair, average_bound_of, bound_of, fractions_of, pair_of, pairs, pairs_below}
use Rattle.query_model.specs.Knowledge.{ranges_of}
use Rattle.round_engine.specs.declared.item_bound.ItemBound.{ItemBound}
use Rattle.round_engine.specs.declared.item_bound.ItemBound.TheVariants.{Numbers, Fractions}
use Rattle.daq_table.specs.Tables.{Frame}
use Rattle.round_engine.specs.CountedSums.{is_untold, told_at}
use Rattle.round_engine.specs.Moves.{is_marked}
use Rattle.round_engine.specs.Selected.{is_by_masks}
use Rattle.round_engine.specs.Stages.{IsOpenStage, Stage}

-- the pair of a row, if the row may give a value
abbrev pub pair_at : Stage → Aggregate → ℕ → Option Pair
pair_at stage item row = pair_of stage.query item [] (ranges_of stage.frame stage.known row)

-- the bound of a list of pairs, in the form of an item's kind
abbrev pub IsBoundOf : ItemKind → List Pair → ItemBound → Type 0
IsBoundOf kind ps (Numbers bound) = (kind ≢ Avg) × (bound ≡ bound_of kind ps)
IsBoundOf kind ps (Fractions bound) = (kind ≡ Avg) × (fractions_of bound ≡ average_bound_of ps)

-- the bound of the item's pairs
abbrev pub IsTotal : Stage → Aggregate → ItemBound → Type 0
IsTotal stage item bound = IsBoundOf item.kind (pairs stage.query item [] stage.frame stage.known) bound

-- there is one for each item, to which it is related
pub record AreEach {X : Type 0} (R : ℕ → Aggregate → X → Type 0) (items : List Aggregate) (xs : List X) : Type 0 where
  pub count : length xs ≡ length items
  pub each : (i : ℕ) (item : Aggregate) (x : X) → slice_get items i ≡ Some item → slice_get xs i ≡ Some x → R i item x

-- there is a total for each item
abbrev pub AreTotals : Stage → List ItemBound → Type 0
AreTotals stage bounds = AreEach (λ i item bound. IsTotal stage item bound) stage.query.items bounds

-- there is one for each item that is not marked
abbrev pub AreTotalsBeside : Stage → List Bool → List ItemBound → Type 0
AreTotalsBeside stage marks bounds = AreEach (λ i item bound. is_marked marks i ≢ true → IsTotal stage item bound) stage.query.items bounds

-- they are those of an open stage
pub record AreSomeTotals (bounds : List ItemBound) : Type 0 where
  pub stage : Stage
  pub open_stage : IsOpenStage stage
  pub totals_are : AreTotals stage bounds

-- there is room to add the rows of each item, whatever was added
abbrev pub HaveRoom : List Aggregate → List Tallies → Type 0
HaveRoom items runnings = AreEach (λ i item running. (running.kind ≡ item.kind) × (running.room ≡ 1)) items runnings

-- no row was added
abbrev pub AreBlank : List Aggregate → List Tallies → Type 0
AreBlank items runnings = AreEach (λ i item running. IsBlank running item.kind 1 1) items runnings

-- the one cell stands for the item's pairs of the rows below a number
pub record IsFilledBelow (stage : Stage) (item : Aggregate) (rows : ℕ) (running : Tallies) : Type 0 where
  pub kind : running.kind ≡ item.kind
  pub room : running.room ≡ 1
  pub cells : length running.cells ≡ 1
  pub stands : StandsFor running 0 (pairs_below stage.query item [] stage.frame stage.known rows)

-- there is room for each item, and that of a marked one is filled so far
pub record IsFilledIf (marked : Bool) (stage : Stage) (item : Aggregate) (rows : ℕ) (running : Tallies) : Type 0 where
  pub kind : running.kind ≡ item.kind
  pub room : running.room ≡ 1
  pub filled : marked ≡ true → IsFilledBelow stage item rows running

abbrev pub AreFilledBelow : Stage → List Bool → ℕ → List Tallies → Type 0
AreFilledBelow stage marks rows runnings =
    AreEach (λ i item running. IsFilledIf (is_marked marks i) stage item rows running) stage.query.items runnings

-- of the marked items those are marked besides whose rows are added one by one: no masks tell their bound, and no tally is told
abbrev pub AreAdded : Frame → List Aggregate → List Bool → List (Option Tally) → List Bool → Type 0
AreAdded frame items marks told added =
    (i : ℕ) (item : Aggregate) → slice_get items i ≡ Some item →
    is_marked added i ≡ (is_marked marks i && (not (is_by_masks frame item) && is_untold (told_at told i)))

-- all rows of each marked item are added, but for the items that masks tell
abbrev pub AreFilled : Stage → List Bool → List Tallies → Type 0
AreFilled stage marks runnings =
    AreEach (λ i item running. is_marked marks i ≡ true → is_by_masks stage.frame item ≡ false
    → IsFilledBelow stage item stage.frame.rows running) stage.query.items runnings

-- an item has a bound of this form
pub record HasNumbers (bounds : List ItemBound) (item : ℕ) : Type 0 where
  pub bound : Bound
  pub there : slice_get bounds item ≡ Some (Numbers bound)

pub record HasFractions (bounds : List ItemBound) (item : ℕ) : Type 0 where
  pub bound : AverageBound
  pub there : slice_get bounds item ≡ Some (Fractions bound)
