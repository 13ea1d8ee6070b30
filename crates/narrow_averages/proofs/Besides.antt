-- An average beside which the sum and the number of its values are told.
use Rattle.std.proofs.Common.{◌≡◌, ◌≢◌, ℕ, ◌<◌, ◌≤◌, ℤ, pos, ◌^◌, ◌*ℤ◌, ◌≤ℤ◌, ◌<ℤ◌, int_le, int_lt, FitsSigned, rules, Bool, true, false, cond, ◌&&◌, ◌==◌, List, [], ◌∷◌, map, length, ◌⊎◌, inl, inr, refl, arith, subst, sym, ap, Option, None, Some, IsTrue, IsFalse, if◌then◌else◌}
use Rattle.std.specs.Int.{w128}
use Rattle.std.specs.Ordering.{int_eq}
use Rattle.std.proofs.lemmas.Bool.{cases_Bool, cond_both, and_parts}
use Rattle.std.proofs.lemmas.Int.{ints, clamps}
use Rattle.interval_calc.specs.Intervals.{Fraction}
use Rattle.query_model.specs.declared.bounds.Bound.{Bound}
use Rattle.query_model.specs.declared.bounds.Nullity.{Nullity}
use Rattle.query_model.specs.declared.bounds.Nullity.TheVariants.{Never, Possibly, Always}
use Rattle.query_model.specs.declared.query.ItemKind.TheVariants.{Count, Sum}
use Rattle.query_model.specs.Answers.{answer, average}
use Rattle.query_model.specs.Bounds.{Admits, AdmitsAverage, AverageBound, IsNested, IsNestedAverage, Pair, average_bound_of, bound_of}
use Rattle.query_model.proofs.Integers.{equal_when, when_equal}
use Rattle.shard_bounds.specs.Averages.{AreDivisible, FitsAverage, IsDivisible, ReportsAverage, TellsAverage, apart, apart_by, average_by, average_from, exact_by, greater, is_exact, is_one_fraction, lesser, meet_by, meet_of_two, values_at}
use Rattle.shard_bounds.specs.Combined.{combined}
use Rattle.shard_bounds.specs.Laws.{AreAllPairs, Tells, flattened}
use Rattle.shard_bounds.proofs.AverageOrders.{equal_numbers, same_fraction}
use Rattle.shard_bounds.proofs.DividedSums.{sums_give_averages}
use Rattle.shard_bounds.proofs.EqualEnds.{AreSame, apart_divides, apart_looks, apart_same, nested-refl, nested-trans, nested_admits, same}
use Rattle.shard_bounds.proofs.Following.{averages_follow}
use Rattle.shard_bounds.proofs.Meets.{meets_stand}
use Rattle.narrow_averages.specs.Beside.{AdmitValues, BesidesStand, apart_if_fit, average_beside, beside_from, can_double, is_counted}

-- ---- denominators

some_values : (end : ℤ) → 0 < values_at end
some_values end = omega (arith, ints, clamps)

enough : (end : ℤ) (n : ℕ) → pos n ≤ℤ end → n ≤ values_at end
enough end n h = omega (arith, ints, clamps)

few : (end : ℤ) (n : ℕ) → 0 < n → end ≤ℤ pos n → values_at end ≤ n
few end n some h = omega (arith, ints, clamps)

lesser_divides : (a b : Fraction) → 0 < a.den → 0 < b.den → 0 < (lesser a b).den
lesser_divides a b h k = cond_both (int_le (a.num *ℤ pos b.den) (b.num *ℤ pos a.den)) a b (λ m. 0 < m.den) (λ t. h) (λ f. k)

greater_divides : (a b : Fraction) → 0 < a.den → 0 < b.den → 0 < (greater a b).den
greater_divides a b h k = cond_both (int_le (a.num *ℤ pos b.den) (b.num *ℤ pos a.den)) b a (λ m. 0 < m.den) (λ t. k) (λ f. h)

from_divides : (w : Nullity) (sum count : Bound) → IsDivisible (average_by w sum count)
from_divides Always sum count = record { lo = omega arith; hi = omega arith }
from_divides Never sum count = record {
  lo = some_values (if int_le (pos 0) sum.lo then count.hi else count.lo);
  hi = some_values (if int_le (pos 0) sum.hi then count.lo else count.hi);
}
from_divides Possibly sum count = record {
  lo = some_values (if int_le (pos 0) sum.lo then count.hi else count.lo);
  hi = some_values (if int_le (pos 0) sum.hi then count.lo else count.hi);
}

meet_divides : (v w : Nullity) (a b : AverageBound) → IsDivisible a → IsDivisible b → IsDivisible (meet_by v w a b)
meet_divides Always w a b p q = p
meet_divides Never Always a b p q = q
meet_divides Possibly Always a b p q = q
meet_divides Never Never a b p q = record { lo = greater_divides b.lo a.lo q.lo p.lo; hi = lesser_divides a.hi b.hi p.hi q.hi }
meet_divides Never Possibly a b p q = record { lo = greater_divides b.lo a.lo q.lo p.lo; hi = lesser_divides a.hi b.hi p.hi q.hi }
meet_divides Possibly Never a b p q = record { lo = greater_divides b.lo a.lo q.lo p.lo; hi = lesser_divides a.hi b.hi p.hi q.hi }
meet_divides Possibly Possibly a b p q = record { lo = greater_divides b.lo a.lo q.lo p.lo; hi = lesser_divides a.hi b.hi p.hi q.hi }

-- ---- ends that are put apart

if_fit_same : (bound : AverageBound) → AreSame bound (apart_if_fit bound)
if_fit_same bound = cond_both (can_double bound.hi) (apart bound) bound (λ b. AreSame bound b) (λ t. apart_same bound) (λ f. same bound)

if_fit_divides : (bound : AverageBound) → IsDivisible bound → IsDivisible (apart_if_fit bound)
if_fit_divides bound d = cond_both (can_double bound.hi) (apart bound) bound (λ b. IsDivisible b) (λ t. apart_divides bound d) (λ f. d)

module _ (sum count : Bound) (other : AverageBound) where
  beside_same : AreSame (meet_of_two (average_from sum count) other) (beside_from (average_from sum count) other)
  beside_same =
      let meet = meet_of_two (average_from sum count) other in
      cond_both (is_exact (average_from sum count)) meet (apart_if_fit meet) (λ b. AreSame meet b) (λ t. same meet) (λ f. if_fit_same meet)

  meet_divisible : IsDivisible other → IsDivisible (meet_of_two (average_from sum count) other)
  meet_divisible d = meet_divides (average_from sum count).null other.null (average_from sum count) other (from_divides sum.null sum count) d

  -- what holds of both holds of the average beside the two
  in_both : (P : AverageBound → Type 0) → (IsTrue (is_counted count) → P (beside_from (average_from sum count) other)) → (IsFalse (is_counted count) → P other) →
      P (average_beside sum count other)
  in_both P here else_ = cond_both (is_counted count) (beside_from (average_from sum count) other) other P here else_

  counted : IsTrue (is_counted count) → average_beside sum count other ≡ beside_from (average_from sum count) other
  counted t = ap (λ c. cond c (beside_from (average_from sum count) other) other) t

  not_counted : IsFalse (is_counted count) → average_beside sum count other ≡ other
  not_counted f = ap (λ c. cond c (beside_from (average_from sum count) other) other) f

-- ---- contains

from_admits : (sum count : Bound) (other : AverageBound) (values : List ℤ) → AdmitValues sum count other values → AdmitsAverage (average_from sum count) (average values)
from_admits sum count other values h = averages_follow.contain sum count values h.sum_admits h.count_admits

meet_admits : (sum count : Bound) (other : AverageBound) (values : List ℤ) → AdmitValues sum count other values → AdmitsAverage (meet_of_two (average_from sum count) other) (average values)
meet_admits sum count other values h = meets_stand.contain (average_from sum count) other (average values) (from_admits sum count other values h) h.other_admits

contains : (sum count : Bound) (other : AverageBound) (values : List ℤ) → IsDivisible other → AdmitValues sum count other values → AdmitsAverage (average_beside sum count other) (average values)
contains sum count other values d h = in_both sum count other (λ b. AdmitsAverage b (average values)) (λ t. own) (λ f. h.other_admits)
  where
    own : AdmitsAverage (beside_from (average_from sum count) other) (average values)
    own =
        let same_too = (beside_same sum count other).round in
        nested_admits (beside_from (average_from sum count) other) (meet_of_two (average_from sum count) other) (average values) (meet_divisible sum count other d) same_too (meet_admits sum count other values h)

-- ---- nested

narrow_to : (sum count : Bound) (other : AverageBound) (x : Option (ℤ × ℕ)) → IsDivisible other → AdmitsAverage (average_from sum count) x → AdmitsAverage other x →
    IsNestedAverage (average_from sum count) (beside_from (average_from sum count) other) × IsNestedAverage other (beside_from (average_from sum count) other)
narrow_to sum count other x d h k =
    let both = meets_stand.narrow (average_from sum count) other x h k in
    let divides = meet_divisible sum count other d in
    let in_meet = (beside_same sum count other).within in (
      nested-trans (average_from sum count) (meet_of_two (average_from sum count) other) (beside_from (average_from sum count) other) divides both.0 in_meet,
      nested-trans other (meet_of_two (average_from sum count) other) (beside_from (average_from sum count) other) divides both.1 in_meet,
    )

narrow : (sum count : Bound) (other : AverageBound) (values : List ℤ) → IsDivisible other → AdmitValues sum count other values → IsNestedAverage other (average_beside sum count other)
narrow sum count other values d h = in_both sum count other (λ b. IsNestedAverage other b)
    (λ t. (narrow_to sum count other (average values) d (from_admits sum count other values h) h.other_admits).1) (λ f. nested-refl other)

from_nests : (sum count new_sum new_count : Bound) (other new_other : AverageBound) (values : List ℤ) → AreDivisible (other ∷ new_other ∷ []) →
    IsNested sum new_sum → IsNested count new_count → IsNestedAverage other new_other → AdmitValues new_sum new_count new_other values →
    IsNestedAverage (beside_from (average_from sum count) other) (beside_from (average_from new_sum new_count) new_other)
from_nests sum count new_sum new_count other new_other values d p q r h =
    let some : new_count.null ≢ Always = h.count_admits.0 in
    let meets = meets_stand.nest (average_from sum count) other (average_from new_sum new_count) new_other (average values)
    (from_divides new_sum.null new_sum new_count, d.1) (averages_follow.nest sum count new_sum new_count p q some) r
    (from_admits new_sum new_count new_other values h) h.other_admits in
    let old = beside_same sum count other in
    let new = beside_same new_sum new_count new_other in
    nested-trans (beside_from (average_from sum count) other) (meet_of_two (average_from sum count) other) (beside_from (average_from new_sum new_count) new_other)
    (meet_divisible sum count other d.0) old.round
    (nested-trans (meet_of_two (average_from sum count) other) (meet_of_two (average_from new_sum new_count) new_other) (beside_from (average_from new_sum new_count) new_other)
    (meet_divisible new_sum new_count new_other d.1.0) meets new.within)

-- a number of values that is counted stays so
below_both : (lo hi : ℤ) → IsTrue (int_lt lo (pos (2 ^ 64)) && int_lt hi (pos (2 ^ 64))) → hi <ℤ pos (2 ^ 64)
below_both lo hi t = let parts = and_parts (int_lt lo (pos (2 ^ 64))) (int_lt hi (pos (2 ^ 64))) t in omega (arith, ints, parts)

both_below : (lo hi : ℤ) → lo <ℤ pos (2 ^ 64) → hi <ℤ pos (2 ^ 64) → IsTrue (int_lt lo (pos (2 ^ 64)) && int_lt hi (pos (2 ^ 64)))
both_below lo hi p q = grind (arith, ints)

stays_counted : (count new : Bound) (n : ℕ) → IsNested count new → Admits new (Some (pos n)) → IsTrue (is_counted count) → IsTrue (is_counted new)
stays_counted count new n p h t =
    let high = below_both count.lo count.hi t in
    let down = p.hi h.0 in
    let low : new.lo <ℤ pos (2 ^ 64) = omega (arith, ints, h.1, h.2, high, down) in
    both_below new.lo new.hi low (omega (arith, ints, high, down))

nests : (sum count new_sum new_count : Bound) (other new_other : AverageBound) (values : List ℤ) → AreDivisible (other ∷ new_other ∷ []) →
    IsNested sum new_sum → IsNested count new_count → IsNestedAverage other new_other → AdmitValues new_sum new_count new_other values →
    IsNestedAverage (average_beside sum count other) (average_beside new_sum new_count new_other)
nests sum count new_sum new_count other new_other values d p q r h =
    in_both sum count other (λ b. IsNestedAverage b (average_beside new_sum new_count new_other))
    (λ t. subst (λ b. IsNestedAverage (beside_from (average_from sum count) other) b)
    (sym (counted new_sum new_count new_other (stays_counted count new_count (length values) q h.count_admits t)))
    (from_nests sum count new_sum new_count other new_other values d p q r h))
    (λ f. nested-trans other new_other (average_beside new_sum new_count new_other) d.1.0 r (narrow new_sum new_count new_other values d.1.0 h))

-- ---- denominators of the whole

pub beside_divides : (sum count : Bound) (other : AverageBound) → IsDivisible other → IsDivisible (average_beside sum count other)
beside_divides sum count other d =
    let meet = meet_of_two (average_from sum count) other in
    let divides = meet_divisible sum count other d in
    in_both sum count other (λ b. IsDivisible b)
    (λ t. cond_both (is_exact (average_from sum count)) meet (apart_if_fit meet) (λ b. IsDivisible b) (λ t. divides) (λ f. if_fit_divides meet divides))
    (λ f. d)

-- ---- as one table

as_one : (pss : List (List Pair)) (other : AverageBound) (x : Option (ℤ × ℕ)) → AreAllPairs pss → IsDivisible other →
    IsTrue (is_counted (combined Count (map (bound_of Count) pss))) → AdmitsAverage (average_bound_of (flattened pss)) x → AdmitsAverage other x →
    IsNestedAverage (average_bound_of (flattened pss)) (average_beside (combined Sum (map (bound_of Sum) pss)) (combined Count (map (bound_of Count) pss)) other)
as_one pss other x are d t h k =
    let sum = combined Sum (map (bound_of Sum) pss) in
    let count = combined Count (map (bound_of Count) pss) in
    let e : average_from sum count ≡ average_bound_of (flattened pss) = sums_give_averages pss are in
    subst (λ (b : AverageBound). IsNestedAverage (average_bound_of (flattened pss)) b) (sym (counted sum count other t))
    (subst (λ (a : AverageBound). IsNestedAverage a (beside_from (average_from sum count) other)) e
    (narrow_to sum count other x d (subst (λ (a : AverageBound). AdmitsAverage a x) (sym e) h) k).0)

-- ---- tells

nat_same : (m n : ℕ) → m ≡ n → IsTrue (m == n)
nat_same m n e = grind arith

-- a bound that says a sum and a number looks exact
looks_by : (w : Nullity) (lo hi : Fraction) (x : Option (ℤ × ℕ)) → TellsAverage (record { null = w; lo = lo; hi = hi }) x →
    IsTrue (exact_by w (is_one_fraction (record { null = w; lo = lo; hi = hi })))
looks_by Always lo hi x h = refl
looks_by Possibly lo hi None h = absurd (cc)
looks_by Possibly lo hi (Some (s, n)) h = absurd (no h.0)
  where
    no : ◌≡◌ {A = Nullity} Possibly Never → ⊥
    no q = cc
looks_by Never lo hi None h = absurd (cc)
looks_by Never lo hi (Some (s, n)) h = rw (h.1, h.2) (both (int_eq s s) (n == n) (when_equal s s refl) (nat_same n n refl))
  where
    both : (a b : Bool) → IsTrue a → IsTrue b → IsTrue (a && b)
    both a b p q = rw (p, q) refl

told : (from other : AverageBound) (x : Option (ℤ × ℕ)) → TellsAverage from x → AdmitsAverage other x → TellsAverage (beside_from from other) x
told from other x h k =
    subst (λ (b : AverageBound). TellsAverage b x)
    (sym (ap (λ c. cond c (meet_of_two from other) (apart_if_fit (meet_of_two from other))) (looks_by from.null from.lo from.hi x h)))
    (meets_stand.tell from other x h k)

tells : (sum count : Bound) (other : AverageBound) (values : List ℤ) → IsTrue (is_counted count) → Tells sum (answer Sum values) → Tells count (answer Count values) →
    AdmitsAverage other (average values) → TellsAverage (average_beside sum count other) (average values)
tells sum count other values t h k m =
    subst (λ (b : AverageBound). TellsAverage b (average values)) (sym (counted sum count other t))
    (told (average_from sum count) other (average values) (averages_follow.tell sum count values h k) m)

-- ---- looks exact only where it tells

-- what lies between two numbers that are one is that number
pinned : (a b n : ℕ) → a ≤ n → n ≤ b → a ≡ b → (a ≡ n) × (b ≡ n)
pinned a b n p q e = (omega (arith, p, q, e), omega (arith, p, q, e))

ends_by : (b : Bool) (low high : ℤ) (n : ℕ) → values_at low ≤ n → n ≤ values_at high →
    values_at (if b then high else low) ≡ values_at (if b then low else high) →
    (values_at (if b then high else low) ≡ n) × (values_at (if b then low else high) ≡ n)
ends_by true low high n p q e = let both = pinned (values_at low) (values_at high) n p q (sym e) in (both.1, both.0)
ends_by false low high n p q e = pinned (values_at low) (values_at high) n p q e

ends_tell : (lo hi low high : ℤ) (n : ℕ) → lo ≡ hi → 0 < n → low ≤ℤ pos n → pos n ≤ℤ high →
    values_at (if int_le (pos 0) lo then high else low) ≡ values_at (if int_le (pos 0) hi then low else high) →
    (values_at (if int_le (pos 0) lo then high else low) ≡ n) × (values_at (if int_le (pos 0) hi then low else high) ≡ n)
ends_tell lo hi low high n same some below above =
    subst (λ (z : ℤ). values_at (if int_le (pos 0) lo then high else low) ≡ values_at (if int_le (pos 0) z then low else high) →
    (values_at (if int_le (pos 0) lo then high else low) ≡ n) × (values_at (if int_le (pos 0) z then low else high) ≡ n)) same
    (ends_by (int_le (pos 0) lo) low high n (few low n some below) (enough high n above))

tell_by : (w : Nullity) (sum count : Bound) (values : List ℤ) → sum.null ≡ w → Admits sum (answer Sum values) → Admits count (answer Count values) →
    IsTrue (is_exact (average_by w sum count)) → TellsAverage (average_by w sum count) (average values)
tell_by Always sum count [] e h k t = refl
tell_by Always sum count (v ∷ vs) e h k t = absurd (h.0 e)
tell_by Possibly sum count values e h k t = absurd (cc)
tell_by Never sum count [] e h k t = absurd (h e)
tell_by Never sum count (v ∷ vs) e h k t =
    let low = if int_le (pos 0) sum.lo then count.hi else count.lo in
    let high = if int_le (pos 0) sum.hi then count.lo else count.hi in
    let parts = and_parts (int_eq sum.lo sum.hi) (values_at low == values_at high) t in
    let same_ends = equal_when sum.lo sum.hi parts.0 in
    let same_rows = equal_numbers (values_at low) (values_at high) parts.1 in
    let rows = ends_tell sum.lo sum.hi count.lo count.hi (length (v ∷ vs)) same_ends (omega arith) k.1 k.2 same_rows in (
      refl,
      same_fraction _ _ (omega (arith, ints, same_ends)) rows.0,
      same_fraction _ _ (omega (arith, ints, same_ends)) rows.1,
    )

-- ends that are put apart do not look exact
told_without : (bound : AverageBound) (x : Option (ℤ × ℕ)) → IsDivisible bound → IsTrue (can_double bound.hi) → AdmitsAverage bound x →
    IsTrue (is_exact (apart_if_fit bound)) → TellsAverage (apart_if_fit bound) x
told_without bound x d fits h t =
    let is : apart_if_fit bound ≡ apart bound = ap (λ c. cond c (apart bound) bound) fits in
    let none = apart_looks bound d (subst (λ (b : AverageBound). IsTrue (is_exact b)) is t) in
    subst (λ (b : AverageBound). TellsAverage b x) (sym is) (no_average x h none)
  where
    no_average : (x : Option (ℤ × ℕ)) → AdmitsAverage bound x → bound.null ≡ Always → TellsAverage (apart bound) x
    no_average None h e = subst (λ (w : Nullity). (apart_by w (is_one_fraction bound) bound).null ≡ Always) (sym e) e
    no_average (Some (s, n)) h e = absurd (h.0 e)

from_looks : (sum count : Bound) (other : AverageBound) (values : List ℤ) → IsDivisible other → AdmitValues sum count other values →
    IsTrue (can_double (meet_of_two (average_from sum count) other).hi) →
    IsTrue (is_exact (beside_from (average_from sum count) other)) → TellsAverage (beside_from (average_from sum count) other) (average values)
from_looks sum count other values d h fits t = either (cases_Bool (is_exact (average_from sum count)))
  where
    either : IsTrue (is_exact (average_from sum count)) ⊎ IsFalse (is_exact (average_from sum count)) → TellsAverage (beside_from (average_from sum count) other) (average values)
    either (inl e) = told (average_from sum count) other (average values) (tell_by sum.null sum count values refl h.sum_admits h.count_admits e) h.other_admits
    either (inr f) =
        let meet = meet_of_two (average_from sum count) other in
        let is : beside_from (average_from sum count) other ≡ apart_if_fit meet = ap (λ c. cond c meet (apart_if_fit meet)) f in
        subst (λ (b : AverageBound). TellsAverage b (average values)) (sym is)
        (told_without meet (average values) (meet_divisible sum count other d) fits (meet_admits sum count other values h) (subst (λ (b : AverageBound). IsTrue (is_exact b)) is t))

looks : (sum count : Bound) (other : AverageBound) (values : List ℤ) → IsDivisible other → AdmitValues sum count other values → IsTrue (is_counted count) →
    IsTrue (can_double (meet_of_two (average_from sum count) other).hi) →
    IsTrue (is_exact (average_beside sum count other)) → TellsAverage (average_beside sum count other) (average values)
looks sum count other values d h some fits t =
    let is = counted sum count other some in
    subst (λ (b : AverageBound). TellsAverage b (average values)) (sym is)
    (from_looks sum count other values d h fits (subst (λ (b : AverageBound). IsTrue (is_exact b)) is t))

reports : (sum count : Bound) (other : AverageBound) (values : List ℤ) → IsDivisible other → AdmitValues sum count other values →
    ReportsAverage other (average values) → IsTrue (can_double (meet_of_two (average_from sum count) other).hi) →
    ReportsAverage (average_beside sum count other) (average values)
reports sum count other values d h own fits = record {
  admits = contains sum count other values d h;
  tells = either (cases_Bool (is_counted count));
}
  where
    either : IsTrue (is_counted count) ⊎ IsFalse (is_counted count) → IsTrue (is_exact (average_beside sum count other)) →
        TellsAverage (average_beside sum count other) (average values)
    either (inl some) t = looks sum count other values d h some fits t
    either (inr f) t =
        let is = not_counted sum count other f in
        subst (λ (b : AverageBound). TellsAverage b (average values)) (sym is) (own.tells (subst (λ (b : AverageBound). IsTrue (is_exact b)) is t))

pub besides_stand : BesidesStand
besides_stand = record { contain = contains; nest = nests; narrow = narrow; as_one = as_one; tell = tells; report = reports }

-- ---- in the code

counted_end : (end : ℤ) → end <ℤ pos (2 ^ 64) → values_at end < 2 ^ 64
counted_end end h = omega (arith, ints, clamps, h)

of_two : (b : Bool) (low high : ℤ) → low <ℤ pos (2 ^ 64) → high <ℤ pos (2 ^ 64) → values_at (if b then high else low) < 2 ^ 64
of_two true low high p q = counted_end high q
of_two false low high p q = counted_end low p

-- numbers of values of 64 bits give an average
pub counted_fits : (w : Nullity) (sum count : Bound) → FitsSigned w128 sum.lo → FitsSigned w128 sum.hi → IsTrue (is_counted count) → FitsAverage (average_by w sum count)
counted_fits w sum count p q t = by w
  where
    ends : (count.lo <ℤ pos (2 ^ 64)) × (count.hi <ℤ pos (2 ^ 64))
    ends = let parts = and_parts (int_lt count.lo (pos (2 ^ 64))) (int_lt count.hi (pos (2 ^ 64))) t in (omega (arith, ints, parts), omega (arith, ints, parts))

    by : (w : Nullity) → FitsAverage (average_by w sum count)
    by Always = record { lo = record { num = search rules; den = omega arith }; hi = record { num = search rules; den = omega arith } }
    by Never = record {
      lo = record { num = p; den = of_two (int_le (pos 0) sum.lo) count.lo count.hi ends.0 ends.1 };
      hi = record { num = q; den = of_two (int_le (pos 0) sum.hi) count.hi count.lo ends.1 ends.0 };
    }
    by Possibly = record {
      lo = record { num = p; den = of_two (int_le (pos 0) sum.lo) count.lo count.hi ends.0 ends.1 };
      hi = record { num = q; den = of_two (int_le (pos 0) sum.hi) count.hi count.lo ends.1 ends.0 };
    }
