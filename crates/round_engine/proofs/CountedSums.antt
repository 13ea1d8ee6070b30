-- The pairs of an item whose sum counts tell.
use Rattle.std.proofs.Common.{◌≡◌, ℕ, zero, suc, ◌+◌, ◌<◌, ◌≤◌, Bool, false, ◌&&◌, not, List, [], length, map, filter, filter_map, get_or, IfSome, true, refl, ap, sym, subst, ◌∙◌, arith, Option, Some, None, slice_get, replicate, set, inl, inr}
use Rattle.std.specs.List.{range_with_len}
use Rattle.std.proofs.lemmas.List.FromFn.{get_or-map-range_with_len}
use Rattle.std.proofs.lemmas.Bool.{cases_eq}
use Rattle.std.proofs.lemmas.List.{get_or-map, get_or-set_other, get_or-set_same, length-map}
use Rattle.std.proofs.lemmas.Option.{same_Some}
use Rattle.std.specs.Simd.Lanes.{zip2}
use Rattle.std.proofs.lemmas.Simd.{get_or-zip2, length-zip2, map-map}
use Rattle.aggregates.specs.declared.tally.Tally.{Tally}
use Rattle.aggregates.specs.Runnings.{Tallies}
use Rattle.aggregates.specs.Selections.{IsPartOf, has_row}
use Rattle.aggregates.specs.Tallies.{AreOrdered, tally_of}
use Rattle.aggregates.proofs.BlockWords.{row_within}
use Rattle.interval_calc.specs.Intervals.{Interval}
use Rattle.kleene_filter.specs.Filters.{is_certain, is_possible, truth_at, truths_under}
use Rattle.daq_table.specs.declared.head.Ends.{Ends}
use Rattle.daq_table.specs.Tables.{ends_at}
use Rattle.known_column.specs.Columns.{KnownColumn, rows_of_column, rows_where}
use Rattle.known_column.specs.KnownTables.{KnownTable, column_at}
use Rattle.product_sums.specs.Products.{HasValue, HasValues, pair_at, pairs_of}
use Rattle.product_sums.proofs.Multiplying.{both_true}
use Rattle.query_model.specs.declared.bounds.Truth.{Truth}
use Rattle.query_model.specs.declared.query.Shape.TheVariants.{Plain}
use Rattle.query_model.specs.Bounds.{Pair, pair_of, pairs, truth_of_row}
use Rattle.query_model.specs.Knowledge.{IsKnowledge, known_at, prefix_at, ranges_of}
use Rattle.query_model.specs.Queries.{Aggregate, Condition, Query, Term}
use Rattle.query_model.specs.Truths.{and_of, may_be_null, may_be_number, null_of, span_of, truth_of, truth_of_number}
use Rattle.query_model.specs.declared.query.ItemKind.{ItemKind}
use Rattle.query_model.specs.declared.query.ItemKind.TheVariants.{Count, Sum, Min, Max, Avg}
use Rattle.query_model.specs.Validity.{FitsKind, FitsSum, IsSumKind}
use Rattle.query_model.proofs.Queries.{ranges_ordered, span_ordered}
use Rattle.round_engine.specs.declared.selection.Selection.{Selection}
use Rattle.round_engine.specs.CountedSums.{AreTold, IsSetTo, IsTold, is_untold}
use Rattle.round_engine.specs.Engines.{stage_of}
use Rattle.round_engine.specs.Selected.{HasRows}
use Rattle.round_engine.specs.Stages.{Stage}
use Rattle.round_engine.specs.Totals.{IsFilledBelow, IsFilledIf}
use Rattle.round_engine.proofs.Masked.{pair_by_masks, sure_may, told_pair}
use Rattle.round_engine.proofs.OneCell.{ordered_pair}
use Rattle.round_engine.proofs.RowPairs.{plain_pair}
use Rattle.round_engine.proofs.SelectedPairs.{pairs_told}

-- a mask of the filter at a row
pub filter_row : (f : Truth → Bool) (mask : List Bool) (truths : List Truth) (pred : Condition) (columns : KnownTable) → mask ≡ map f truths → truths ≡ truths_under pred columns → (r : ℕ) → r < columns.frame.rows → has_row mask r ≡ f (truth_at pred columns r)
filter_row f mask truths pred columns is judged r below =
    ap (λ m. get_or m r false) (is ∙ ap (map f) judged ∙ map-map f (truth_at pred columns) (range_with_len 0 columns.frame.rows))
    ∙ get_or-map-range_with_len (λ row. f (truth_at pred columns row)) 0 columns.frame.rows r r false below (omega arith)

-- ---- two masks whose rows tests tell

module _ (columns : KnownTable) (arg : Term) (surely perhaps : ℕ → Bool) (may must : List Bool) (long : length may ≡ columns.frame.rows) (long_must : length must ≡ columns.frame.rows)
    (may_at : (r : ℕ) → r < columns.frame.rows → has_row may r ≡ perhaps r) (must_at : (r : ℕ) → r < columns.frame.rows → has_row must r ≡ surely r) where
  pub masks_nested : ((r : ℕ) → surely r ≡ true → perhaps r ≡ true) → IsPartOf must may
  masks_nested nested = record {
    rows = long_must ∙ sym long;
    nested = λ r has. (let below : r < columns.frame.rows = omega (arith, row_within must r has, long_must) in may_at r below ∙ nested r (sym (must_at r below) ∙ has));
  }

  pub masks_valued : ((r : ℕ) → perhaps r ≡ true → HasValue columns arg r) → HasValues columns arg may
  masks_valued valued r has = (let below : r < columns.frame.rows = omega (arith, row_within may r has, long) in valued r (sym (may_at r below) ∙ has))

  -- the pairs of their rows
  pub masks_pairs : (give : ℕ → Option Pair) → ((r : ℕ) → r < columns.frame.rows → give r ≡ told_pair (surely r) (perhaps r) (span_of arg (ranges_of columns.frame columns.known r))) →
      filter_map give (range_with_len 0 columns.frame.rows) ≡ pairs_of columns arg may must
  masks_pairs give told =
      let span : ℕ → Interval = λ r. span_of arg (ranges_of columns.frame columns.known r) in
      pairs_told give (has_row must) (has_row may) span 0 columns.frame.rows (λ r above below.
      told r (omega arith)
      ∙ ap (λ b. told_pair b (perhaps r) (span r)) (sym (must_at r (omega arith)))
      ∙ ap (λ b. told_pair (has_row must r) b (span r)) (sym (may_at r (omega arith))))
      ∙ ap (λ k. map (pair_at columns arg must) (filter (has_row may) (range_with_len 0 k))) (sym long)

-- ---- a cell that keeps what is told of all rows

module _ (query : Query) (item : Aggregate) (columns : KnownTable) (k : IsKnowledge columns.frame columns.known) where
  ordered_from : (a n : ℕ) → a + n ≤ columns.frame.rows → AreOrdered (filter_map (λ r. pair_of query item [] (ranges_of columns.frame columns.known r)) (range_with_len a n))
  ordered_from a zero h = tt
  ordered_from a (suc n) h =
      let ranges = ranges_of columns.frame columns.known a in
      ordered_pair (and_of (truth_of_row query [] ranges) (truth_of_number (null_of item.arg ranges))) (span_of item.arg ranges) _ (span_ordered item.arg ranges (ranges_ordered columns.frame columns.known a k (omega arith)))
      (ordered_from (a + 1) n (omega arith))

  pub filled_by_told : (told : Option Tally) (tally : Tally) (old new : Tallies) → told ≡ Some tally → IsTold (stage_of query columns) item told → IsSetTo told old new → old.kind ≡ item.kind → old.room ≡ 1 → IsFilledBelow (stage_of query columns) item columns.frame.rows new
  filled_by_told told tally old new is right to kind room =
      let same = subst (IsTold (stage_of query columns) item) is right in
      record {
        kind = to.kind ∙ kind;
        room = to.room ∙ room;
        cells = to.count tally is;
        stands = record {
          kept = to.kept tally is ∙ ap Some (same ∙ ap (λ j. tally_of j (pairs query item [] columns.frame columns.known)) (sym (to.kind ∙ kind)));
          ordered = ordered_from 0 columns.frame.rows (omega arith);
        };
      }

  -- the cell of an item is filled, where it was so or a tally is told
  pub set_item : (told : Option Tally) (old new : Tallies) (added marked masks : Bool) → added ≡ (marked && (not masks && is_untold told)) → IsTold (stage_of query columns) item told → IsSetTo told old new →
      IsFilledIf added (stage_of query columns) item columns.frame.rows old → marked ≡ true → masks ≡ false → IsFilledBelow (stage_of query columns) item columns.frame.rows new
  set_item None old new added marked masks is right to before marked_is masks_is =
      subst (IsFilledBelow (stage_of query columns) item columns.frame.rows) (sym (to.unset refl)) (before.filled (is ∙ ap (λ b. b && (not masks && true)) marked_is ∙ ap (λ b. not b && true) masks_is))
  set_item (Some tally) old new added marked masks is right to before marked_is masks_is = filled_by_told (Some tally) tally old new refl right to before.kind before.room

-- ---- what is told of each item

nothing : (n i : ℕ) → get_or (replicate {A = Option Tally} n None) i None ≡ None
nothing zero i = refl
nothing (suc n) zero = refl
nothing (suc n) (suc i) = nothing n i

pub none_told : (stage : Stage) (n : ℕ) → AreTold stage (replicate n None)
none_told stage n i item at = subst (IsTold stage item) (sym (nothing n i)) tt

pub told_more : (stage : Stage) (told : List (Option Tally)) (i : ℕ) (item : Aggregate) (one : Option Tally) → i < length told → slice_get stage.query.items i ≡ Some item → IsTold stage item one → AreTold stage told → AreTold stage (set told i one)
told_more stage told i item one within there right before j a at =
    elim (cases_eq j i) [
      | inl here ↦
          (let same : item ≡ a = same_Some item a (sym there ∙ subst (λ k. slice_get stage.query.items k ≡ Some a) here at) in
          subst (IsTold stage a) (sym (ap (λ k. get_or (set told i one) k None) here ∙ get_or-set_same told i one None within)) (subst (λ (x : Aggregate). IsTold stage x one) same right))
      | inr other ↦ subst (IsTold stage a) (sym (get_or-set_other told i j one None other)) (before j a at)
    ]

-- ---- rows at which a column has a value

pub tested_length : (test : Ends → ℕ → ℕ → Bool) (columns : KnownTable) (old mask new : List Bool) (known : KnownColumn) → rows_of_column known ≡ columns.frame.rows → length old ≡ columns.frame.rows → mask ≡ rows_where test known →
    new ≡ zip2 (λ a b. a && b) old mask → length new ≡ columns.frame.rows
tested_length test columns old mask new known rows long mask_is is =
    let same : length mask ≡ columns.frame.rows = ap length mask_is ∙ length-map known.known.prefixes (test known.ends known.known.read) ∙ rows in
    ap length is ∙ length-zip2 (λ a b. a && b) old mask (long ∙ sym same) ∙ long

-- the rows of a mask that pass a test of a column's prefixes
pub tested_row : (test : Ends → ℕ → ℕ → Bool) (columns : KnownTable) (c : ℕ) (old mask new : List Bool) (known : KnownColumn) → known ≡ column_at columns c → rows_of_column known ≡ columns.frame.rows → length old ≡ columns.frame.rows →
    mask ≡ rows_where test known → new ≡ zip2 (λ a b. a && b) old mask → (r : ℕ) → r < columns.frame.rows → has_row new r ≡ (has_row old r && test (ends_at columns.frame c) (known_at columns.known c).read (prefix_at columns.known c r))
tested_row test columns c old mask new known there rows long mask_is is r below =
    let same : length mask ≡ columns.frame.rows = ap length mask_is ∙ length-map known.known.prefixes (test known.ends known.known.read) ∙ rows in
    ap (λ m. get_or m r false) is ∙ get_or-zip2 (λ a b. a && b) old mask r false false false (omega (arith, below, long)) (omega (arith, below, same))
    ∙ ap (λ b. has_row old r && b) (ap (λ m. get_or m r false) mask_is ∙ get_or-map (test known.ends known.known.read) known.known.prefixes r 0 false (omega (arith, below, rows))
    ∙ ap (λ (k : KnownColumn). test k.ends k.known.read (get_or k.known.prefixes r 0)) there)

-- what fits for a sum or an average is the sum of all rows
pub fits_sum : (kind : ItemKind) (rows : ℕ) (span : Interval) → IsSumKind kind → FitsKind kind rows span → FitsSum rows span
fits_sum Count rows span sum fits = absurd sum
fits_sum Sum rows span sum fits = fits
fits_sum Min rows span sum fits = absurd sum
fits_sum Max rows span sum fits = absurd sum
fits_sum Avg rows span sum fits = fits.0

-- ---- rows of the filter that have a value, by masks

-- a tally by the item's kind and argument
pub tally_by_pairs : (columns : KnownTable) (item : Aggregate) (kind : ItemKind) (arg : Term) → kind ≡ item.kind → arg ≡ item.arg → (may must : List Bool) (ps : List Pair) → ps ≡ pairs_of columns item.arg may must → (told : Option Tally) →
    IfSome told (λ tally. tally ≡ tally_of kind (pairs_of columns arg may must)) → IfSome told (λ tally. tally ≡ tally_of item.kind ps)
tally_by_pairs columns item kind arg kind_is arg_is may must ps same told is =
    subst (λ qs. IfSome told (λ tally. tally ≡ tally_of item.kind qs)) (sym same)
    (subst (λ t. IfSome told (λ tally. tally ≡ tally_of item.kind (pairs_of columns t may must))) arg_is
    (subst (λ k. IfSome told (λ tally. tally ≡ tally_of k (pairs_of columns arg may must))) kind_is is))

module _ (query : Query) (item : Aggregate) (columns : KnownTable) (plain : query.shape ≡ Plain) (truths : List Truth) (judged : truths ≡ truths_under query.pred columns) (kind : ItemKind) (arg : Term) (kind_is : kind ≡ item.kind) (arg_is : arg ≡ item.arg)
    (passing kept : Selection) (room : HasRows columns.frame.rows kept) (may_passes : passing.may ≡ map is_possible truths) (must_passes : passing.must ≡ map is_certain truths)
    (may_kept : (r : ℕ) → r < columns.frame.rows → has_row kept.may r ≡ (has_row passing.may r && may_be_number (null_of arg (ranges_of columns.frame columns.known r))))
    (must_kept : (r : ℕ) → r < columns.frame.rows → has_row kept.must r ≡ (has_row passing.must r && not (may_be_null (null_of arg (ranges_of columns.frame columns.known r))))) where
  abbrev surely : ℕ → Bool
  surely r = is_certain (truth_at query.pred columns r) && not (may_be_null (null_of item.arg (ranges_of columns.frame columns.known r)))

  abbrev perhaps : ℕ → Bool
  perhaps r = is_possible (truth_at query.pred columns r) && may_be_number (null_of item.arg (ranges_of columns.frame columns.known r))

  may_there : (r : ℕ) → r < columns.frame.rows → has_row kept.may r ≡ perhaps r
  may_there r below =
      may_kept r below ∙ ap (λ b. b && may_be_number (null_of arg (ranges_of columns.frame columns.known r))) (filter_row is_possible passing.may truths query.pred columns may_passes judged r below)
      ∙ ap (λ t. is_possible (truth_at query.pred columns r) && may_be_number (null_of t (ranges_of columns.frame columns.known r))) arg_is

  must_there : (r : ℕ) → r < columns.frame.rows → has_row kept.must r ≡ surely r
  must_there r below =
      must_kept r below ∙ ap (λ b. b && not (may_be_null (null_of arg (ranges_of columns.frame columns.known r)))) (filter_row is_certain passing.must truths query.pred columns must_passes judged r below)
      ∙ ap (λ t. is_certain (truth_at query.pred columns r) && not (may_be_null (null_of t (ranges_of columns.frame columns.known r)))) arg_is

  pub kept_part : IsPartOf kept.must kept.may
  kept_part = masks_nested columns item.arg surely perhaps kept.may kept.must room.may room.must may_there must_there (λ r. sure_may (truth_at query.pred columns r) (null_of item.arg (ranges_of columns.frame columns.known r)))

  pub kept_values : HasValues columns arg kept.may
  kept_values = subst (λ t. HasValues columns t kept.may) (sym arg_is) (masks_valued columns item.arg surely perhaps kept.may kept.must room.may room.must may_there must_there (λ r has. (both_true _ _ has).1))

  kept_pairs : pairs query item [] columns.frame columns.known ≡ pairs_of columns item.arg kept.may kept.must
  kept_pairs =
      masks_pairs columns item.arg surely perhaps kept.may kept.must room.may room.must may_there must_there (λ r. pair_of query item [] (ranges_of columns.frame columns.known r)) (λ r below.
      let ranges = ranges_of columns.frame columns.known r in
      plain_pair query item ranges plain ∙ pair_by_masks (truth_of query.pred ranges) (null_of item.arg ranges) (span_of item.arg ranges))

  pub kept_told : (told : Option Tally) → IfSome told (λ tally. tally ≡ tally_of kind (pairs_of columns arg kept.may kept.must)) → IsTold (stage_of query columns) item told
  kept_told told is = tally_by_pairs columns item kind arg kind_is arg_is kept.may kept.must (pairs query item [] columns.frame columns.known) kept_pairs told is
