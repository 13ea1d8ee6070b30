-- Whether the bound of an item is narrow, at the stage that an engine stands for.
use Rattle.std.proofs.Common.{◌≡◌, ◌≢◌, ℕ, ◌<◌, ◌^◌, ◌&&◌, List, [], ◌∷◌, length, Some, slice_get, zero, suc, arith, refl, sym, ap, ◌∙◌, subst}
use Rattle.std.specs.List.{list_all}
use Rattle.plane_schedule.specs.declared.policy.Nearness.{Nearness}
use Rattle.query_model.specs.Queries.{Aggregate}
use Rattle.query_model.specs.declared.query.ItemKind.{ItemKind}
use Rattle.query_model.specs.declared.query.Shape.{Shape}
use Rattle.query_model.specs.declared.query.Shape.TheVariants.{Plain}
use Rattle.query_model.specs.declared.query.ItemKind.TheVariants.{Count, Sum, Min, Max, Avg}
use Rattle.query_model.specs.Bounds.{Pair, average_under, bound_of, pairs}
use Rattle.query_model.specs.Laws.{PairsAreFew}
use Rattle.query_model.specs.Truths.{span_of}
use Rattle.query_model.specs.Validity.{FitsKind, declared_ranges}
use Rattle.round_engine.specs.declared.item_bound.ItemBound.{ItemBound}
use Rattle.round_engine.specs.declared.item_bound.ItemBound.TheVariants.{Numbers, Fractions}
use Rattle.round_engine.specs.Narrowness.{FitsNarrow, FitsNarrowOf, are_narrow, is_narrow, is_narrow_form, is_narrow_average, is_narrow_bound, is_narrow_item, is_narrow_of}
use Rattle.round_engine.specs.Stages.{IsOpenStage, Stage}
use Rattle.round_engine.specs.Totals.{AreSomeTotals, AreTotals, IsBoundOf, IsTotal}
use Rattle.round_engine.proofs.Kept.{item_of, open_item_at}
use Rattle.round_engine.proofs.Ratios.{average_fits}
use Rattle.round_engine.proofs.Shown.{pairs_within}

-- ---- the cross products fit

ratios_fit : (stage : Stage) (n width : ℕ) (i : Aggregate) → PairsAreFew → IsOpenStage stage → slice_get stage.query.items n ≡ Some i → i.kind ≡ Avg → width < 2 ^ 63 →
    FitsNarrow width (average_under stage.query i [] stage.frame stage.known)
ratios_fit stage n width i few kept is kind narrow =
    let span = span_of i.arg (declared_ranges stage.frame) in
    let fits : FitsKind Avg stage.frame.rows span = subst (λ k. FitsKind k stage.frame.rows span) kind (open_item_at stage n i kept is).fits.1 in
    average_fits width stage.frame.rows span (pairs stage.query i [] stage.frame stage.known) (pairs_within stage.query i [] stage.frame stage.known kept.knowledge)
    ((few stage.query i stage.frame stage.known stage.frame.rows).of_key []) kept.open_query.few_rows narrow fits.1

total_fits : (stage : Stage) (n width : ℕ) (i : Aggregate) (bound : ItemBound) → PairsAreFew → IsOpenStage stage → slice_get stage.query.items n ≡ Some i → width < 2 ^ 63 → IsTotal stage i bound → FitsNarrowOf width bound
total_fits stage n width i (Numbers bound) few kept is narrow total = tt
total_fits stage n width i (Fractions bound) few kept is narrow total = subst (FitsNarrow width) (sym total.1) (ratios_fit stage n width i few kept is total.0 narrow)

pub each_fits : (bounds : List ItemBound) (n width : ℕ) (bound : ItemBound) → PairsAreFew → AreSomeTotals bounds → width < 2 ^ 63 → slice_get bounds n ≡ Some bound → FitsNarrowOf width bound
each_fits bounds n width bound few are narrow there =
    let (i, at, total) = item_of _ are.stage.query.items bounds n bound are.totals_are there in
    total_fits are.stage n width i bound few are.open_stage at narrow total

-- ---- all items

narrow_plain : (width : ℕ) (kind : ItemKind) (ps : List Pair) → kind ≢ Avg → is_narrow_bound width (bound_of kind ps) ≡ is_narrow_item width kind ps
narrow_plain width Count ps h = refl
narrow_plain width Sum ps h = refl
narrow_plain width Min ps h = refl
narrow_plain width Max ps h = refl
narrow_plain width Avg ps h = absurd (h refl)

narrow_form : (width : ℕ) (kind : ItemKind) (ps : List Pair) (bound : ItemBound) → IsBoundOf kind ps bound → is_narrow_of width bound ≡ is_narrow_item width kind ps
narrow_form width kind ps (Numbers bound) is = ap (is_narrow_bound width) is.1 ∙ narrow_plain width kind ps is.0
narrow_form width kind ps (Fractions bound) is = ap (is_narrow_average width) is.1 ∙ sym (ap (λ k. is_narrow_item width k ps) is.0)

narrow_each : (width : ℕ) (pairs_for : Aggregate → List Pair) (items : List Aggregate) (bounds : List ItemBound) → length bounds ≡ length items →
    ((n : ℕ) (i : Aggregate) (bound : ItemBound) → slice_get items n ≡ Some i → slice_get bounds n ≡ Some bound → IsBoundOf i.kind (pairs_for i) bound) →
    list_all (is_narrow_of width) bounds ≡ list_all (λ i. is_narrow_item width i.kind (pairs_for i)) items
narrow_each width pairs_for [] [] count each = refl
narrow_each width pairs_for [] (b ∷ bs) count each = absurd (omega arith)
narrow_each width pairs_for (i ∷ is) [] count each = absurd (omega arith)
narrow_each width pairs_for (i ∷ is) (b ∷ bs) count each =
    ap (λ c. c && list_all (is_narrow_of width) bs) (narrow_form width i.kind (pairs_for i) b (each zero i b refl refl))
    ∙ ap (λ c. is_narrow_item width i.kind (pairs_for i) && c) (narrow_each width pairs_for is bs (omega arith) (λ n. each (suc n)))

narrow_in_form : (near : Nearness) (stage : Stage) (shape : Shape) → shape ≡ Plain → are_narrow near.width stage.query.items (λ i. pairs stage.query i [] stage.frame stage.known) ≡ is_narrow_form near stage shape
narrow_in_form near stage shape plain = sym (ap (is_narrow_form near stage) plain)

pub narrow_all : (near : Nearness) (stage : Stage) (bounds : List ItemBound) → stage.query.shape ≡ Plain → AreTotals stage bounds → list_all (is_narrow_of near.width) bounds ≡ is_narrow near stage
narrow_all near stage bounds plain are =
    narrow_each near.width (λ i. pairs stage.query i [] stage.frame stage.known) stage.query.items bounds are.count are.each ∙ narrow_in_form near stage stage.query.shape plain
