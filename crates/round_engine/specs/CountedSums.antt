-- Sums and averages that counts of rows tell.
use Rattle.std.specs.Prelude.{◌≡◌, ℕ, Bool, true, false, List, [], length, slice_get, slice_index_or, IfSome}
use Rattle.std.specs.declared.option.Option.{Option}
use Rattle.std.specs.declared.option.Option.TheVariants.{None, Some}
use Rattle.aggregates.specs.declared.tally.Tally.{Tally}
use Rattle.aggregates.specs.Runnings.{Tallies}
use Rattle.aggregates.specs.Tallies.{tally_of}
use Rattle.daq_table.specs.Tables.{Frame}
use Rattle.product_sums.specs.Products.{IsProductSum, keeps_sign}
use Rattle.query_model.specs.Bounds.{pairs}
use Rattle.query_model.specs.Queries.{Aggregate}
use Rattle.query_model.specs.Validity.{IsSumKind}
use Rattle.round_engine.specs.Stages.{Stage}

-- counts of rows may tell the item: a sum or an average of a sum of products that keeps its sign
pub record IsByCounts (frame : Frame) (item : Aggregate) : Type 0 where
  pub kind : IsSumKind item.kind
  pub sums : IsProductSum frame item.arg
  pub sign : keeps_sign frame item.arg ≡ true

-- a tally, if there is one, is that of the item's pairs
abbrev pub IsTold : Stage → Aggregate → Option Tally → Type 0
IsTold stage item told = IfSome told (λ tally. tally ≡ tally_of item.kind (pairs stage.query item [] stage.frame stage.known))

-- the tally that is told of an item
abbrev pub told_at : List (Option Tally) → ℕ → Option Tally
told_at told i = slice_index_or told i None

-- no tally is told
abbrev pub is_untold : Option Tally → Bool
is_untold None = true
is_untold (Some tally) = false

-- each that is told is that of its item
abbrev pub AreTold : Stage → List (Option Tally) → Type 0
AreTold stage told = (i : ℕ) (item : Aggregate) → slice_get stage.query.items i ≡ Some item → IsTold stage item (told_at told i)

-- the one cell keeps the tally that is told, and where none is told all is as it was
pub record IsSetTo (told : Option Tally) (old new : Tallies) : Type 0 where
  pub kind : new.kind ≡ old.kind
  pub room : new.room ≡ old.room
  pub count : (tally : Tally) → told ≡ Some tally → length new.cells ≡ 1
  pub kept : (tally : Tally) → told ≡ Some tally → slice_get new.cells 0 ≡ Some tally
  pub unset : told ≡ None → new ≡ old
