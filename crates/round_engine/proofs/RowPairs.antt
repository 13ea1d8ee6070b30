-- An item's pairs, row by row, and what a mask tells of a row.
use Rattle.std.proofs.Common.{◌≡◌, ℕ, zero, suc, ◌+◌, ◌<◌, Bool, false, List, [], ◌∷◌, ◌++◌, length, map, slice_get, Some, None, refl, sym, ap, ◌∙◌, arith}
use Rattle.std.specs.List.{filter_map, range_with_len}
use Rattle.std.proofs.lemmas.List.Elements.{filter_map-append}
use Rattle.std.proofs.lemmas.List.{length-map}
use Rattle.std.proofs.lemmas.List.FromFn.{length-map-range_with_len}
use Rattle.std.proofs.lemmas.Option.{same_Some}
use Rattle.std.specs.declared.option.Option.{Option}
use Rattle.interval_calc.specs.Intervals.{Interval}
use Rattle.query_model.specs.declared.bounds.Truth.{Truth}
use Rattle.query_model.specs.declared.bounds.Truth.TheVariants.{False, Unknown, True}
use Rattle.query_model.specs.Queries.{Condition, Aggregate, Query}
use Rattle.query_model.specs.declared.query.Shape.{Shape}
use Rattle.query_model.specs.declared.query.Shape.TheVariants.{Plain}
use Rattle.query_model.specs.Answers.{groups_of}
use Rattle.query_model.specs.Bounds.{pair_by, pair_of, pair_unless_false, truth_of_group, truth_of_row}
use Rattle.query_model.specs.Truths.{Ranges, and_of, truth_of}
use Rattle.known_column.specs.KnownTables.{KnownTable}
use Rattle.kleene_filter.specs.Filters.{is_possible, truth_at, truths_under}

-- ---- lists of what rows give

pub range-more : (a n : ℕ) → range_with_len a (suc n) ≡ range_with_len a n ++ (a + n) ∷ []
range-more a zero = ap (λ k. k ∷ []) (omega arith)
range-more a (suc n) = ap (λ ks. a ∷ ks) (range-more (a + 1) n ∙ ap (λ k. range_with_len (a + 1) n ++ k ∷ []) (omega arith))

pub given-more : {X : Type 0} (give : ℕ → Option X) (n : ℕ) → filter_map give (range_with_len 0 (n + 1)) ≡ filter_map give (range_with_len 0 n) ++ filter_map give (n ∷ [])
given-more give n =
    let up : n + 1 ≡ suc n = omega arith in
    let from_none : 0 + n ≡ n = omega arith in
    ap (λ k. filter_map give (range_with_len 0 k)) up ∙ ap (filter_map give) (range-more 0 n ∙ ap (λ k. range_with_len 0 n ++ k ∷ []) from_none) ∙ filter_map-append give (range_with_len 0 n) (n ∷ [])

-- ---- a row's pair

and_true : (t : Truth) → and_of t True ≡ t
and_true False = refl
and_true Unknown = refl
and_true True = refl

-- where nothing is grouped, a row counts where the condition holds
plain_truth : (query : Query) (ranges : Ranges) → query.shape ≡ Plain → truth_of_row query [] ranges ≡ truth_of query.pred ranges
plain_truth query ranges plain = ap (λ (shape : Shape). and_of (truth_of query.pred ranges) (truth_of_group (groups_of shape) [] ranges)) plain ∙ and_true (truth_of query.pred ranges)

-- where nothing is grouped, a row gives a value where the condition holds and the argument is not null
pub plain_pair : (query : Query) (item : Aggregate) (ranges : Ranges) → query.shape ≡ Plain → pair_of query item [] ranges ≡ pair_by (truth_of query.pred ranges) item ranges
plain_pair query item ranges plain = ap (λ t. pair_by t item ranges) (plain_truth query ranges plain)

none_if_impossible : (t u : Truth) (span : Interval) → is_possible t ≡ false → pair_unless_false (and_of t u) span ≡ None
none_if_impossible False u span may = refl
none_if_impossible Unknown u span may = cc
none_if_impossible True u span may = cc

module _ (query : Query) (item : Aggregate) (ranges : Ranges) (plain : query.shape ≡ Plain) where
  pub pair_impossible : is_possible (truth_of query.pred ranges) ≡ false → pair_of query item [] ranges ≡ None
  pair_impossible may = plain_pair query item ranges plain ∙ none_if_impossible _ _ _ may

pub rows_of_mask : (f : Truth → Bool) (mask : List Bool) (truths : List Truth) (pred : Condition) (columns : KnownTable) → mask ≡ map f truths → truths ≡ truths_under pred columns → length mask ≡ columns.frame.rows
rows_of_mask f mask truths pred columns is judged = ap length is ∙ length-map truths f ∙ ap length judged ∙ length-map-range_with_len (truth_at pred columns) 0 columns.frame.rows

-- a bit that a filter tells of a row
pub bit_at_row : (f : Truth → Bool) (mask : List Bool) (truths : List Truth) (pred : Condition) (columns : KnownTable) (row : ℕ) (bit : Bool) → mask ≡ map f truths → truths ≡ truths_under pred columns →
    row < columns.frame.rows → slice_get mask row ≡ Some bit → bit ≡ f (truth_at pred columns row)
bit_at_row f mask truths pred columns row bit is judged within told =
    let all : slice_get (map f (truths_under pred columns)) row ≡ Some bit = ap (λ ts. slice_get (map f ts) row) (sym judged) ∙ ap (λ m. slice_get m row) (sym is) ∙ told in
    let start : 0 + row ≡ row = omega arith in
    same_Some _ _ (sym all ∙ there f (truth_at pred columns) 0 columns.frame.rows row within ∙ ap (λ r. Some (f (truth_at pred columns r))) start)
  where
    there : (f : Truth → Bool) (truth : ℕ → Truth) (a n i : ℕ) → i < n → slice_get (map f (map truth (range_with_len a n))) i ≡ Some (f (truth (a + i)))
    there f truth a zero i h = absurd (omega arith)
    there f truth a (suc n) zero h = ap (λ k. Some (f (truth k))) (omega arith)
    there f truth a (suc n) (suc i) h = there f truth (a + 1) n i (omega arith) ∙ ap (λ k. Some (f (truth k))) (omega arith)
