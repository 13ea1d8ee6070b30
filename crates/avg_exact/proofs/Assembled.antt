-- The exact average out of the best choices at both ends.
use Rattle.std.proofs.Common.{◌≡◌, ℕ, zero, suc, ◌+◌, ◌<◌, ℤ, List, [], ◌∷◌, length, map, slice_get, refl, filter_map, IfSome, Option, Some, None, subst, sym, ap, ◌∙◌}
use Rattle.std.specs.List.{cons_option, range_with_len}
use Rattle.std.specs.Option.{option_map}
use Rattle.std.proofs.lemmas.Option.{slice_get-get_or}
use Rattle.query_model.specs.declared.bounds.Nullity.{Nullity}
use Rattle.query_model.specs.Queries.{Aggregate}
use Rattle.query_model.specs.Answers.{every_row}
use Rattle.query_model.specs.Bounds.{Pair, nullity_of, pair_of, pairs}
use Rattle.query_model.specs.Knowledge.{ranges_of}
use Rattle.round_engine.specs.Stages.{Stage}
use Rattle.avg_exact.specs.declared.passes.End.TheVariants.{Low, High}
use Rattle.avg_exact.specs.ExactAverages.{Choice, Cut, ExactAverage, IsCutOf, exact_of, fraction_of, high_end, low_end, negated, negated_choice, negative}
use Rattle.avg_exact.proofs.HighEnds.{high_cut_of}
use Rattle.avg_exact.specs.Passes.{all_rows, item_at, seen, uncertain_count}

-- the rows of an item

pub for_item : (stage : Stage) (item : ℕ) (fact : Aggregate → Type 0) → item < length stage.query.items → fact (item_at stage item) → IfSome (slice_get stage.query.items item) fact
for_item stage item fact there h = subst (λ o. IfSome o fact) (sym (slice_get-get_or stage.query.items item every_row there)) h

mapped_rows : (f : Pair → Pair) (give : ℕ → Option Pair) (a n : ℕ) → filter_map (λ r. option_map f (give r)) (range_with_len a n) ≡ map f (filter_map give (range_with_len a n))
mapped_rows f give a zero = refl
mapped_rows f give a (suc n) = one (give a) (filter_map (λ r. option_map f (give r)) (range_with_len (a + 1) n)) (filter_map give (range_with_len (a + 1) n)) (mapped_rows f give (a + 1) n)
  where
    one : (o : Option Pair) (xs ys : List Pair) → xs ≡ map f ys → cons_option (option_map f o) xs ≡ map f (cons_option o ys)
    one None xs ys e = e
    one (Some p) xs ys e = ap (λ zs. f p ∷ zs) e

same_pairs : (ps : List Pair) → map (seen High) ps ≡ ps
same_pairs [] = refl
same_pairs (p ∷ ps) = ap (λ qs. p ∷ qs) (same_pairs ps)

negated_pairs : (ps : List Pair) → map (seen Low) ps ≡ map negated ps
negated_pairs [] = refl
negated_pairs (p ∷ ps) = ap (λ qs. negated p ∷ qs) (negated_pairs ps)

abbrev pub pairs_at : Stage → ℕ → List Pair
pairs_at stage item = pairs stage.query (item_at stage item) [] stage.frame stage.known

pub high_rows : (stage : Stage) (item : ℕ) → all_rows stage item High ≡ pairs_at stage item
high_rows stage item =
    mapped_rows (seen High) (λ r. pair_of stage.query (item_at stage item) [] (ranges_of stage.frame stage.known r)) 0 stage.frame.rows ∙ same_pairs (pairs_at stage item)

pub low_rows : (stage : Stage) (item : ℕ) → all_rows stage item Low ≡ map negated (pairs_at stage item)
low_rows stage item =
    mapped_rows (seen Low) (λ r. pair_of stage.query (item_at stage item) [] (ranges_of stage.frame stage.known r)) 0 stage.frame.rows ∙ negated_pairs (pairs_at stage item)

-- the choice at the low end
pub low_choice : (stage : Stage) (item : ℕ) (low best : Choice) → low ≡ negated_choice best → best ≡ high_end (all_rows stage item Low) → low ≡ low_end (pairs_at stage item)
low_choice stage item low best e f = e ∙ ap negated_choice (f ∙ ap high_end (low_rows stage item))

abbrev from_choices : Nullity → Choice → Choice → ℕ → ExactAverage
from_choices null low high n = record {
  null = null;
  lo = fraction_of low;
  hi = fraction_of high;
  unknown = n;
  low_taken = low.taken;
  high_taken = high.taken;
  low_cut = low.cut;
  high_cut = high.cut;
}

pub assembled : (ps : List Pair) (null : Nullity) (low high : Choice) (n : ℕ) (low_sum high_sum : ℤ) (low_rows high_rows : ℕ) →
    null ≡ nullity_of ps → low ≡ low_end ps → high ≡ high_end ps → n ≡ uncertain_count ps →
    low_sum ≡ low.sum → low_rows ≡ low.rows → high_sum ≡ high.sum → high_rows ≡ high.rows →
    record {
      null = null;
      lo = record { num = low_sum; den = low_rows };
      hi = record { num = high_sum; den = high_rows };
      unknown = n;
      low_taken = low.taken;
      high_taken = high.taken;
      low_cut = low.cut;
      high_cut = high.cut;
    } ≡ exact_of ps
assembled ps null low high n low_sum high_sum low_rows high_rows e l h u ls lr hs hr =
    ap (λ z. exact z low_rows high_sum high_rows) ls ∙ ap (λ z. exact low.sum z high_sum high_rows) lr
    ∙ ap (λ z. exact low.sum low.rows z high_rows) hs ∙ ap (λ z. exact low.sum low.rows high.sum z) hr
    ∙ ap (λ w. from_choices w low high n) e ∙ ap (λ c. from_choices (nullity_of ps) c high n) l
    ∙ ap (λ c. from_choices (nullity_of ps) (low_end ps) c n) h ∙ ap (from_choices (nullity_of ps) (low_end ps) (high_end ps)) u
  where
    exact : ℤ → ℕ → ℤ → ℕ → ExactAverage
    exact a b c d = record {
      null = null;
      lo = record { num = a; den = b };
      hi = record { num = c; den = d };
      unknown = n;
      low_taken = low.taken;
      high_taken = high.taken;
      low_cut = low.cut;
      high_cut = high.cut;
    }

-- so has the low end
pub low_cut_of : (ps : List Pair) → IsCutOf (low_end ps).cut (low_end ps).taken
low_cut_of ps = turned (high_end (map negated ps)).cut (high_end (map negated ps)).taken (high_cut_of (map negated ps))
  where
    turned : (c : Cut) (n : ℕ) → IsCutOf c n → IsCutOf (option_map negative c) n
    turned None n h = h
    turned (Some x) n h = h
