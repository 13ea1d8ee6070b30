-- Where an expression lies at all rows of a mask, and the outermost of its ends there.
use Rattle.std.proofs.Common.{◌≡◌, ℕ, ℤ, ◌≤ℤ◌, Bool, List, [], ◌∷◌, length, map, IsTrue, IfSome, Option, Some, None, subst, arith}
use Rattle.std.proofs.lemmas.Int.{ints}
use Rattle.interval_calc.specs.Intervals.{Interval, difference_of, product_of, sum_of}
use Rattle.aggregates.specs.declared.ends.End.TheVariants.{Low, High}
use Rattle.aggregates.specs.Selections.{has_row, rows_in}
use Rattle.aggregates.proofs.ExtremeEnds.{each_in, greatest_is, least_is, stands_in}
use Rattle.aggregates.proofs.BlockWords.{row_within}
use Rattle.known_column.specs.KnownTables.{IsKnownTable, KnownTable}
use Rattle.query_model.specs.declared.query.ItemKind.TheVariants.{Min, Max}
use Rattle.query_model.specs.Answers.{answer}
use Rattle.query_model.specs.Knowledge.{ranges_of}
use Rattle.query_model.specs.Queries.{Term, Add, Sub, Mul}
use Rattle.query_model.specs.Truths.{IsInside, span_of}
use Rattle.query_model.proofs.Extremes.{Has, greatest_above, least_below}
use Rattle.query_model.proofs.Spans.{IsSmaller, difference_smaller, product_smaller, sum_smaller}
use Rattle.product_sums.specs.Products.{term_end}
use Rattle.product_sums.proofs.TermEnds.{smaller}

-- the answer is below or above each number of the list
pub least_of_all : (f : ℕ → ℤ) (mask : List Bool) (v : ℤ) → answer Min (map f (rows_in mask)) ≡ Some v → (r : ℕ) → IsTrue (has_row mask r) → v ≤ℤ f r
least_of_all f mask v is r has = at_list (map f (rows_in mask)) is (stands_in f mask r has)
  where
    inside : {x y : ℤ} → ◌≡◌ {A = Option ℤ} (Some x) (Some y) → x ≡ y
    inside e = cc

    at_list : (xs : List ℤ) → answer Min xs ≡ Some v → Has (f r) xs → v ≤ℤ f r
    at_list [] e h = absurd h
    at_list (x ∷ xs) e h = (let same = inside e in let below = least_below (f r) (x ∷ xs) h in omega (arith, ints, same, below))

pub greatest_of_all : (f : ℕ → ℤ) (mask : List Bool) (v : ℤ) → answer Max (map f (rows_in mask)) ≡ Some v → (r : ℕ) → IsTrue (has_row mask r) → f r ≤ℤ v
greatest_of_all f mask v is r has = at_list (map f (rows_in mask)) is (stands_in f mask r has)
  where
    inside : {x y : ℤ} → ◌≡◌ {A = Option ℤ} (Some x) (Some y) → x ≡ y
    inside e = cc

    at_list : (xs : List ℤ) → answer Max xs ≡ Some v → Has (f r) xs → f r ≤ℤ v
    at_list [] e h = absurd h
    at_list (x ∷ xs) e h = (let same = inside e in let above = greatest_above (f r) (x ∷ xs) h in omega (arith, ints, same, above))

-- where a row's end is that of an interval around all rows, it is the outermost
module _ (table : KnownTable) (t : Term) (mask : List Bool) (hull : Interval) (around : (row : ℕ) → IsTrue (has_row mask row) → IsInside (span_of t (ranges_of table.frame table.known row)) hull) (row : ℕ) (has : IsTrue (has_row mask row)) where
  pub least_end : term_end table Low t row ≡ hull.low → answer Min (map (term_end table Low t) (rows_in mask)) ≡ Some hull.low
  least_end same =
      least_is (map (term_end table Low t) (rows_in mask)) hull.low (subst (λ z. Has z (map (term_end table Low t) (rows_in mask))) same (stands_in (term_end table Low t) mask row has))
      (each_in (term_end table Low t) mask (λ z. hull.low ≤ℤ z) (λ r there. (around r there).low))

  pub greatest_end : term_end table High t row ≡ hull.high → answer Max (map (term_end table High t) (rows_in mask)) ≡ Some hull.high
  greatest_end same =
      greatest_is (map (term_end table High t) (rows_in mask)) hull.high (subst (λ z. Has z (map (term_end table High t) (rows_in mask))) same (stands_in (term_end table High t) mask row has))
      (each_in (term_end table High t) mask (λ z. z ≤ℤ hull.high) (λ r there. (around r there).high))

-- ---- hulls of parts

pub if_some : {A : Type 0} (o : Option A) (P Q : A → Type 0) → ((a : A) → P a → Q a) → IfSome o P → IfSome o Q
if_some None P Q f h = tt
if_some (Some a) P Q f h = f a h

-- around an expression at each row of a mask
abbrev pub Around : KnownTable → List Bool → Term → Interval → Type 0
Around table mask t hull = (row : ℕ) → IsTrue (has_row mask row) → IsInside (span_of t (ranges_of table.frame table.known row)) hull

module _ (table : KnownTable) (known : IsKnownTable table) (mask : List Bool) (long : length mask ≡ table.frame.rows) (a b : Term) (i j : Interval) (around_a : Around table mask a i) (around_b : Around table mask b j) where
  small_a : (row : ℕ) → IsTrue (has_row mask row) → IsSmaller (span_of a (ranges_of table.frame table.known row)) i
  small_a row has = record { ordered = (smaller table known row (omega (arith, row_within mask row has, long)) a).ordered; inside = around_a row has }

  small_b : (row : ℕ) → IsTrue (has_row mask row) → IsSmaller (span_of b (ranges_of table.frame table.known row)) j
  small_b row has = record { ordered = (smaller table known row (omega (arith, row_within mask row has, long)) b).ordered; inside = around_b row has }

  pub around_sum : Around table mask (Add a b) (sum_of i j)
  around_sum row has = (sum_smaller _ _ _ _ (small_a row has) (small_b row has)).inside

  pub around_difference : Around table mask (Sub a b) (difference_of i j)
  around_difference row has = (difference_smaller _ _ _ _ (small_a row has) (small_b row has)).inside

  pub around_product : Around table mask (Mul a b) (product_of i j)
  around_product row has = (product_smaller _ _ _ _ (small_a row has) (small_b row has)).inside
