-- The pairs of a cell that counts of rows tell.
use Rattle.std.proofs.Common.{◌≡◌, ℕ, ◌<◌, ◌==◌, Bool, true, false, ◌&&◌, not, cond, List, length, map, get_or, replicate, Option, IfSome, refl, sym, ap, subst, ◌∙◌, arith, if◌then◌else◌}
use Rattle.std.specs.List.{range_with_len}
use Rattle.std.specs.Simd.Lanes.{zip2}
use Rattle.std.proofs.lemmas.List.{length-replicate}
use Rattle.std.proofs.lemmas.List.FromFn.{get_or-map-range_with_len, length-map-range_with_len}
use Rattle.aggregates.specs.declared.tally.Tally.{Tally}
use Rattle.aggregates.specs.Selections.{IsPartOf, has_row}
use Rattle.aggregates.specs.Tallies.{tally_of}
use Rattle.kleene_filter.specs.Filters.{is_certain, is_possible, truth_at, truths_under}
use Rattle.known_column.specs.KnownTables.{KnownTable}
use Rattle.product_sums.specs.Products.{HasValues, pairs_of}
use Rattle.product_sums.proofs.Multiplying.{both_true}
use Rattle.query_model.specs.declared.bounds.Nullity.{Nullity}
use Rattle.query_model.specs.declared.bounds.Truth.{Truth}
use Rattle.query_model.specs.declared.query.ItemKind.{ItemKind}
use Rattle.query_model.specs.Answers.{groups_of}
use Rattle.query_model.specs.Groups.{cell_of, pair_in_cell, pairs_in_cell}
use Rattle.query_model.specs.Knowledge.{ranges_of}
use Rattle.query_model.specs.Queries.{Aggregate, Query, Term}
use Rattle.query_model.specs.Truths.{may_be_null, may_be_number, null_of, span_of}
use Rattle.round_engine.specs.declared.selection.Selection.{Selection}
use Rattle.round_engine.specs.Engines.{stage_of}
use Rattle.round_engine.specs.OneCell.{IsPart}
use Rattle.round_engine.specs.Selected.{HasRows}
use Rattle.round_engine.proofs.CountedSums.{masks_nested, masks_pairs, masks_valued, tally_by_pairs}
use Rattle.round_engine.proofs.FewCells.{by_part, filtered, keyed_part, sure_keeps}
use Rattle.round_engine.proofs.OneCell.{if_single, must_if, tested_if}

both_if : (one a b : Bool) → (cond one a false && b) ≡ cond one (a && b) false
both_if true a b = refl
both_if false a b = refl

module _ (query : Query) (item : Aggregate) (columns : KnownTable) (cell : ℕ) (certain : Bool) (within : List Bool) (part : IsPart (stage_of query columns) cell certain within) (truths : List Truth) (judged : truths ≡ truths_under query.pred columns)
    (kind : ItemKind) (arg : Term) (kind_is : kind ≡ item.kind) (arg_is : arg ≡ item.arg) (none : List Bool) (nothing : none ≡ replicate columns.frame.rows false) (passing kept : Selection) (room : HasRows columns.frame.rows kept)
    (may_passes : passing.may ≡ zip2 (λ a b. a && b) within (map is_possible truths)) (must_passes : passing.must ≡ (if certain then zip2 (λ a b. a && b) within (map is_certain truths) else none))
    (may_kept : (r : ℕ) → r < columns.frame.rows → has_row kept.may r ≡ (has_row passing.may r && may_be_number (null_of arg (ranges_of columns.frame columns.known r))))
    (must_kept : (r : ℕ) → r < columns.frame.rows → has_row kept.must r ≡ (has_row passing.must r && not (may_be_null (null_of arg (ranges_of columns.frame columns.known r))))) where
  abbrev null : ℕ → Nullity
  null r = null_of item.arg (ranges_of columns.frame columns.known r)

  abbrev inside : ℕ → Bool
  inside r = cell_of columns.known (groups_of query.shape) r == cell

  abbrev holds : ℕ → Truth
  holds r = truth_at query.pred columns r

  abbrev surely : ℕ → Bool
  surely r = cond certain ((inside r && is_certain (holds r)) && not (may_be_null (null r))) false

  abbrev perhaps : ℕ → Bool
  perhaps r = (inside r && is_possible (holds r)) && may_be_number (null r)

  at_row : (test : ℕ → Bool) (mask : List Bool) → mask ≡ map test (range_with_len 0 columns.frame.rows) → (r : ℕ) → r < columns.frame.rows → has_row mask r ≡ test r
  at_row test mask is r below = ap (λ m. get_or m r false) is ∙ get_or-map-range_with_len test 0 columns.frame.rows r r false below (omega arith)

  may_there : (r : ℕ) → r < columns.frame.rows → has_row kept.may r ≡ perhaps r
  may_there r below =
      may_kept r below
      ∙ ap (λ b. b && may_be_number (null_of arg (ranges_of columns.frame columns.known r))) (at_row (λ k. inside k && is_possible (holds k)) passing.may (may_passes ∙ filtered query item columns cell certain within part is_possible truths judged) r below)
      ∙ ap (λ t. (inside r && is_possible (holds r)) && may_be_number (null_of t (ranges_of columns.frame columns.known r))) arg_is

  must_rows : passing.must ≡ map (λ r. cond certain (inside r && is_certain (holds r)) false) (range_with_len 0 columns.frame.rows)
  must_rows =
      let all = zip2 (λ a b. a && b) within (map is_certain truths) in
      must_if certain passing.must all all none (replicate columns.frame.rows false) must_passes refl nothing
      ∙ tested_if certain (λ r. inside r && is_certain (holds r)) all columns.frame.rows (filtered query item columns cell certain within part is_certain truths judged)

  must_there : (r : ℕ) → r < columns.frame.rows → has_row kept.must r ≡ surely r
  must_there r below =
      must_kept r below
      ∙ ap (λ b. b && not (may_be_null (null_of arg (ranges_of columns.frame columns.known r)))) (at_row (λ k. cond certain (inside k && is_certain (holds k)) false) passing.must must_rows r below)
      ∙ ap (λ t. cond certain (inside r && is_certain (holds r)) false && not (may_be_null (null_of t (ranges_of columns.frame columns.known r)))) arg_is
      ∙ both_if certain (inside r && is_certain (holds r)) (not (may_be_null (null r)))

  pub part_nested : IsPartOf kept.must kept.may
  part_nested =
      masks_nested columns item.arg surely perhaps kept.may kept.must room.may room.must may_there must_there
      (λ r. if_single certain ((inside r && is_certain (holds r)) && not (may_be_null (null r))) (perhaps r) (sure_keeps (holds r) (inside r) (null r)))

  pub part_values : HasValues columns arg kept.may
  part_values = subst (λ t. HasValues columns t kept.may) (sym arg_is) (masks_valued columns item.arg surely perhaps kept.may kept.must room.may room.must may_there must_there (λ r has. (both_true _ _ has).1))

  part_pairs : pairs_in_cell query item cell columns.frame columns.known ≡ pairs_of columns item.arg kept.may kept.must
  part_pairs =
      masks_pairs columns item.arg surely perhaps kept.may kept.must room.may room.must may_there must_there (pair_in_cell query item cell columns.frame columns.known) (λ r below.
      keyed_part query item columns cell certain within part r below ∙ by_part (holds r) (inside r) certain (null r) (span_of item.arg (ranges_of columns.frame columns.known r)))

  pub part_told : (told : Option Tally) → IfSome told (λ tally. tally ≡ tally_of kind (pairs_of columns arg kept.may kept.must)) →
      IfSome told (λ tally. tally ≡ tally_of item.kind (pairs_in_cell query item cell columns.frame columns.known))
  part_told told is = tally_by_pairs columns item kind arg kind_is arg_is kept.may kept.must (pairs_in_cell query item cell columns.frame columns.known) part_pairs told is

-- both masks have as many rows as the cell's
pub part_room : (query : Query) (item : Aggregate) (columns : KnownTable) (cell : ℕ) (certain : Bool) (within : List Bool) (part : IsPart (stage_of query columns) cell certain within) (truths : List Truth) → truths ≡ truths_under query.pred columns →
    (none : List Bool) → none ≡ replicate columns.frame.rows false → (passing : Selection) → passing.may ≡ zip2 (λ a b. a && b) within (map is_possible truths) →
    passing.must ≡ (if certain then zip2 (λ a b. a && b) within (map is_certain truths) else none) → HasRows columns.frame.rows passing
part_room query item columns cell certain within part truths judged none nothing passing may_passes must_passes = record {
  may = ap length may_passes ∙ long is_possible;
  must = ap length must_passes ∙ either certain;
}
  where
    long : (f : Truth → Bool) → length (zip2 (λ a b. a && b) within (map f truths)) ≡ columns.frame.rows
    long f =
        ap length (filtered query item columns cell certain within part f truths judged)
        ∙ length-map-range_with_len (λ r. (cell_of columns.known (groups_of query.shape) r == cell) && f (truth_at query.pred columns r)) 0 columns.frame.rows

    either : (one : Bool) → length (if one then zip2 (λ a b. a && b) within (map is_certain truths) else none) ≡ columns.frame.rows
    either true = long is_certain
    either false = ap length nothing ∙ length-replicate columns.frame.rows false
