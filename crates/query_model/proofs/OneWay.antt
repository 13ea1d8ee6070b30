-- An expression that each column moves one way attains the ends of its span at rows of ends.
use Rattle.std.proofs.Common.{◌≡◌, ℕ, ℤ, pos, negsuc, ◌+ℤ◌, ◌-ℤ◌, ◌*ℤ◌, ◌≤ℤ◌, Bool, true, false, not, cond, refl, arith, sym, ap, ◌∙◌, IsTrue, Option, Some}
use Rattle.std.specs.Int.{int_min, int_max}
use Rattle.std.proofs.lemmas.Bool.{cond_both, cond-true, cond-false}
use Rattle.std.proofs.lemmas.Int.{ints, clamps}
use Rattle.interval_calc.specs.Intervals.{Interval, product_of}
use Rattle.interval_calc.proofs.LeastSpans.{times_pos}
use Rattle.query_model.specs.Queries.{Term, Column, Literal, Add, Sub, Mul}
use Rattle.query_model.specs.Meaning.{Row, of_values, val}
use Rattle.query_model.specs.Truths.{Ranges, IsIn, IsRowWithin, may_be_number, null_of, span_of}
use Rattle.query_model.specs.Attaining.{Moves}
use Rattle.query_model.specs.Laws.{NoneEmpty}
use Rattle.query_model.proofs.Members.{low_value, high_value, low_in, high_in, number_value, both_numbers}
use Rattle.query_model.proofs.Spans.{AreInside, span_inside}

-- ---- products of numbers that are not negative

times_swapped : (a b : ℤ) → a *ℤ b ≡ b *ℤ a
times_swapped a b = omega (arith, ints)

-- such a product grows with each side
products_grow : (a b c d : ℤ) → pos 0 ≤ℤ a → a ≤ℤ b → pos 0 ≤ℤ c → c ≤ℤ d → (a *ℤ c) ≤ℤ (b *ℤ d)
products_grow (negsuc m) b c d l h l' k = absurd (omega (arith, ints))
products_grow (pos m) (negsuc n) c d l h l' k = absurd (omega (arith, ints))
products_grow (pos m) (pos n) (negsuc p) d l h l' k = absurd (omega (arith, ints))
products_grow (pos m) (pos n) (pos p) d l h l' k =
    let first = times_pos (pos m) (pos n) p h in
    let second : (pos n *ℤ pos p) ≤ℤ (pos n *ℤ d) = rw (times_swapped (pos n) (pos p), times_swapped (pos n) d) (times_pos (pos p) d n k) in
    omega (arith, ints)

least_of_four : (a b c d : ℤ) → a ≤ℤ b → a ≤ℤ c → a ≤ℤ d → int_min (int_min a b) (int_min c d) ≡ a
least_of_four a b c d h k l = omega (arith, ints, clamps)

greatest_of_four : (a b c d : ℤ) → a ≤ℤ d → b ≤ℤ d → c ≤ℤ d → int_max (int_max a b) (int_max c d) ≡ d
greatest_of_four a b c d h k l = omega (arith, ints, clamps)

record AreCorners (i j : Interval) : Type 0 where
  pub low : i.low *ℤ j.low ≡ (product_of i j).low
  pub high : i.high *ℤ j.high ≡ (product_of i j).high

corners : (i j : Interval) → i.low ≤ℤ i.high → j.low ≤ℤ j.high → pos 0 ≤ℤ i.low → pos 0 ≤ℤ j.low → AreCorners i j
corners i j o p l m =
    let same_i : i.low ≤ℤ i.low = omega (arith, ints) in
    let same_j : j.low ≤ℤ j.low = omega (arith, ints) in
    let same_i' : i.high ≤ℤ i.high = omega (arith, ints) in
    let same_j' : j.high ≤ℤ j.high = omega (arith, ints) in
    let above_i : pos 0 ≤ℤ i.high = omega (arith, ints) in
    let above_j : pos 0 ≤ℤ j.high = omega (arith, ints) in
    let low_high = products_grow i.low i.low j.low j.high l same_i m p in
    let high_low = products_grow i.low i.high j.low j.low l o m same_j in
    let all = products_grow i.low i.high j.low j.high l o m p in
    let from_low = products_grow i.low i.high j.high j.high l o above_j same_j' in
    let from_high = products_grow i.high i.high j.low j.high above_i same_i' m p in
    record {
      low = sym (least_of_four (i.low *ℤ j.low) (i.low *ℤ j.high) (i.high *ℤ j.low) (i.high *ℤ j.high) low_high high_low all);
      high = sym (greatest_of_four (i.low *ℤ j.low) (i.low *ℤ j.high) (i.high *ℤ j.low) (i.high *ℤ j.high) all from_low from_high);
    }

-- ---- the rows

-- the columns that move so are at their high ends, the others at their low ends
abbrev same_way : Bool → Bool → Bool
same_way true b = b
same_way false b = not b

abbrev pub moved : (ℕ → Bool) → Ranges → Bool → Row
moved ways ranges up c = cond (same_way (ways c) up) (high_value (ranges c)) (low_value (ranges c))

pub moved_within : (ways : ℕ → Bool) (ranges : Ranges) (up : Bool) → NoneEmpty ranges → IsRowWithin ranges (moved ways ranges up)
moved_within ways ranges up o c =
    cond_both (same_way (ways c) up) (high_value (ranges c)) (low_value (ranges c)) (IsIn (ranges c)) (λ _. high_in (ranges c) (o c)) (λ _. low_in (ranges c) (o c))

same_is : (a b : Bool) → a ≡ b → same_way a b ≡ true
same_is true true e = refl
same_is true false e = cc
same_is false true e = cc
same_is false false e = refl

other_is : (a b : Bool) → a ≡ b → same_way a (not b) ≡ false
other_is true true e = refl
other_is true false e = cc
other_is false true e = cc
other_is false false e = refl

-- the expression has its ends there
pub record HasEnds (ways : ℕ → Bool) (up : Bool) (e : Term) (ranges : Ranges) : Type 0 where
  pub high : val e (moved ways ranges up) ≡ Some (span_of e ranges).high
  pub low : val e (moved ways ranges (not up)) ≡ Some (span_of e ranges).low

-- of two values that are these numbers
of_two : (f : ℤ → ℤ → ℤ) (u v : Option ℤ) (x y : ℤ) → u ≡ Some x → v ≡ Some y → of_values f u v ≡ Some (f x y)
of_two f u v x y d e = ap (λ z. of_values f z v) d ∙ ap (of_values f (Some x)) e

pub has_ends : (ways : ℕ → Bool) (up : Bool) (e : Term) (ranges : Ranges) → NoneEmpty ranges → Moves ways up e ranges → IsTrue (may_be_number (null_of e ranges)) → HasEnds ways up e ranges
has_ends ways up (Column c) ranges o m n = record {
  high = cond-true (same_way (ways c) up) (high_value (ranges c)) (low_value (ranges c)) (same_is (ways c) up m) ∙ number_value (ranges c).null (ranges c).numbers.high n;
  low = cond-false (same_way (ways c) (not up)) (high_value (ranges c)) (low_value (ranges c)) (other_is (ways c) up m) ∙ number_value (ranges c).null (ranges c).numbers.low n;
}
has_ends ways up (Literal x) ranges o m n = record { high = refl; low = refl }
has_ends ways up (Add a b) ranges o m n =
    let both = both_numbers (null_of a ranges) (null_of b ranges) n in
    let x = has_ends ways up a ranges o m.0 both.0 in
    let y = has_ends ways up b ranges o m.1 both.1 in
    record { high = of_two (λ u v. u +ℤ v) _ _ _ _ x.high y.high; low = of_two (λ u v. u +ℤ v) _ _ _ _ x.low y.low }
has_ends ways true (Sub a b) ranges o m n =
    let both = both_numbers (null_of a ranges) (null_of b ranges) n in
    let x = has_ends ways true a ranges o m.0 both.0 in
    let y = has_ends ways false b ranges o m.1 both.1 in
    record { high = of_two (λ u v. u -ℤ v) _ _ _ _ x.high y.low; low = of_two (λ u v. u -ℤ v) _ _ _ _ x.low y.high }
has_ends ways false (Sub a b) ranges o m n =
    let both = both_numbers (null_of a ranges) (null_of b ranges) n in
    let x = has_ends ways false a ranges o m.0 both.0 in
    let y = has_ends ways true b ranges o m.1 both.1 in
    record { high = of_two (λ u v. u -ℤ v) _ _ _ _ x.high y.low; low = of_two (λ u v. u -ℤ v) _ _ _ _ x.low y.high }
has_ends ways up (Mul a b) ranges o m n =
    let both = both_numbers (null_of a ranges) (null_of b ranges) n in
    let x = has_ends ways up a ranges o m.0 both.0 in
    let y = has_ends ways up b ranges o m.1 both.1 in
    let ends = corners (span_of a ranges) (span_of b ranges) (ordered a ranges o) (ordered b ranges o) m.2 m.3 in
    record {
      high = of_two (λ u v. u *ℤ v) _ _ _ _ x.high y.high ∙ ap (λ z. Some z) ends.high;
      low = of_two (λ u v. u *ℤ v) _ _ _ _ x.low y.low ∙ ap (λ z. Some z) ends.low;
    }
  where
    ordered : (e : Term) (ranges : Ranges) → NoneEmpty ranges → (span_of e ranges).low ≤ℤ (span_of e ranges).high
    ordered e ranges o = (span_inside e ranges ranges o (λ c. record { low = omega (arith, ints); high = omega (arith, ints) })).ordered

-- ---- narrower ranges

-- what moves it over some ranges moves it over ranges within them
pub moves_inside : (ways : ℕ → Bool) (up : Bool) (e : Term) (inner outer : Ranges) → NoneEmpty inner → AreInside inner outer → Moves ways up e outer → Moves ways up e inner
moves_inside ways up (Column c) inner outer o h m = m
moves_inside ways up (Literal n) inner outer o h m = m
moves_inside ways up (Add a b) inner outer o h m = (moves_inside ways up a inner outer o h m.0, moves_inside ways up b inner outer o h m.1)
moves_inside ways up (Sub a b) inner outer o h m = (moves_inside ways up a inner outer o h m.0, moves_inside ways (not up) b inner outer o h m.1)
moves_inside ways up (Mul a b) inner outer o h m =
    let x = (span_inside a inner outer o h).inside.low in
    let y = (span_inside b inner outer o h).inside.low in
    let above = m.2 in
    let above' = m.3 in
    (moves_inside ways up a inner outer o h m.0, moves_inside ways up b inner outer o h m.1, omega (arith, ints), omega (arith, ints))
