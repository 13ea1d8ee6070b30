-- When a round is narrow: whether each answer is there is known, and where it is, its ends are near enough.
use Rattle.std.specs.Prelude.{ℕ, ◌*◌, pos, ◌-ℤ◌, ◌*ℤ◌, int_le, Bool, true, false, not, ◌||◌, List, [], FitsSigned}
use Rattle.std.specs.Int.{w128}
use Rattle.std.specs.List.{list_all, range_with_len}
use Rattle.query_model.specs.declared.bounds.Bound.{Bound}
use Rattle.query_model.specs.declared.bounds.Nullity.{Nullity}
use Rattle.query_model.specs.declared.bounds.Nullity.TheVariants.{Never, Possibly, Always}
use Rattle.query_model.specs.declared.bounds.Standing.{Standing}
use Rattle.query_model.specs.declared.bounds.Standing.TheVariants.{Certain, Possible, Excluded}
use Rattle.query_model.specs.declared.query.ItemKind.{ItemKind}
use Rattle.query_model.specs.declared.query.ItemKind.TheVariants.{Count, Sum, Min, Max, Avg}
use Rattle.query_model.specs.Bounds.{AverageBound, Pair, average_bound_of, bound_of, fractions_of, pairs}
use Rattle.query_model.specs.declared.query.Shape.{Shape}
use Rattle.query_model.specs.declared.query.Shape.TheVariants.{Plain, Grouped, Top}
use Rattle.daq_table.specs.Tables.{rows_of}
use Rattle.query_model.specs.Groups.{cell_count, pairs_in_cell, presence_in_cell}
use Rattle.query_model.specs.Queries.{Aggregate}
use Rattle.query_model.specs.Knowledge.{ranges_of}
use Rattle.query_model.specs.Ranking.{standing_under}
use Rattle.query_model.specs.Truths.{Range}
use Rattle.plane_schedule.specs.declared.policy.Nearness.{Nearness}
use Rattle.round_engine.specs.declared.item_bound.ItemBound.{ItemBound}
use Rattle.round_engine.specs.declared.item_bound.ItemBound.TheVariants.{Numbers, Fractions}
use Rattle.round_engine.specs.Stages.{Stage}

-- whether there is an answer is known, and where there is one, its ends are near
abbrev pub is_told : Nullity → Bool → Bool
is_told Never near = near
is_told Possibly near = false
is_told Always near = true

-- the ends are at most so far apart
abbrev pub is_narrow_bound : ℕ → Bound → Bool
is_narrow_bound width bound = is_told bound.null (int_le (bound.hi -ℤ bound.lo) (pos width))

-- the difference of two fractions is compared by cross products
abbrev pub is_narrow_average : ℕ → AverageBound → Bool
is_narrow_average width bound =
    is_told bound.null
    (int_le ((bound.hi.num *ℤ pos bound.lo.den) -ℤ (bound.lo.num *ℤ pos bound.hi.den)) (pos (width * bound.lo.den * bound.hi.den)))

-- the bound of an item over a list of pairs is narrow
abbrev pub is_narrow_item : ℕ → ItemKind → List Pair → Bool
is_narrow_item width Count ps = is_narrow_bound width (bound_of Count ps)
is_narrow_item width Sum ps = is_narrow_bound width (bound_of Sum ps)
is_narrow_item width Min ps = is_narrow_bound width (bound_of Min ps)
is_narrow_item width Max ps = is_narrow_bound width (bound_of Max ps)
is_narrow_item width Avg ps = is_narrow_average width (average_bound_of ps)

-- the bound of each item over its pairs is narrow
abbrev pub are_narrow : ℕ → List Aggregate → (Aggregate → List Pair) → Bool
are_narrow width items pairs_for = list_all (λ item. is_narrow_item width item.kind (pairs_for item)) items

-- whether the keys of a cell are in the result is known, and where they are, the bounds of the cell are narrow. A cell of several keys
-- is in no result for certain
abbrev pub is_narrow_cell : ℕ → Stage → ℕ → Bool
is_narrow_cell width stage cell =
    is_told (presence_in_cell stage.query cell stage.frame stage.known)
    (are_narrow width stage.query.items (λ item. pairs_in_cell stage.query item cell stage.frame stage.known))

-- whether a key is null is known, and where it is none, its ends are near
abbrev pub is_near_key : ℕ → Range → Bool
is_near_key width range = is_told range.null (int_le (range.numbers.high -ℤ range.numbers.low) (pos width))

-- it is known whether a row is among the first, and where it is and keys are answers too, its key is near
abbrev pub is_near_row : Nearness → Range → Standing → Bool
is_near_row near key Certain = not near.keys || is_near_key near.width key
is_near_row near key Possible = false
is_near_row near key Excluded = true

abbrev pub is_settled : Nearness → Stage → ℕ → ℕ → Bool
is_settled near stage key r =
    is_near_row near (ranges_of stage.frame stage.known r key) (standing_under stage.query stage.frame stage.known r)

-- without groups and order each item is narrow, with groups each cell, and in an order each row is settled
abbrev pub is_narrow_form : Nearness → Stage → Shape → Bool
is_narrow_form near stage Plain = are_narrow near.width stage.query.items (λ item. pairs stage.query item [] stage.frame stage.known)
is_narrow_form near stage (Grouped columns) =
    list_all (is_narrow_cell near.width stage) (range_with_len 0 (cell_count stage.known columns))
is_narrow_form near stage (Top key down limit) = list_all (is_settled near stage key) (rows_of stage.frame)

abbrev pub is_narrow : Nearness → Stage → Bool
is_narrow near stage = is_narrow_form near stage stage.query.shape

-- the cross products by which the fractions of an average are compared are numbers of 128 bits
pub record FitsNarrow (width : ℕ) (bound : AverageBound) : Type 0 where
  pub high : FitsSigned w128 (bound.hi.num *ℤ pos bound.lo.den)
  pub low : FitsSigned w128 (bound.lo.num *ℤ pos bound.hi.den)
  pub difference : FitsSigned w128 ((bound.hi.num *ℤ pos bound.lo.den) -ℤ (bound.lo.num *ℤ pos bound.hi.den))
  pub limit : FitsSigned w128 (pos (width * bound.lo.den * bound.hi.den))

-- a bound in the form of its kind is narrow
abbrev pub is_narrow_of : ℕ → ItemBound → Bool
is_narrow_of width (Numbers bound) = is_narrow_bound width bound
is_narrow_of width (Fractions bound) = is_narrow_average width (fractions_of bound)

abbrev pub FitsNarrowOf : ℕ → ItemBound → Type 0
FitsNarrowOf width (Numbers bound) = Unit {0}
FitsNarrowOf width (Fractions bound) = FitsNarrow width (fractions_of bound)
