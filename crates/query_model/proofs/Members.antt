-- The values of a range, and the truths that a condition may have.
use Rattle.std.proofs.Common.{◌≡◌, ℤ, ◌≤ℤ◌, Bool, true, false, not, ◌&&◌, ◌||◌, ◌⊎◌, inl, inr, refl, subst, sym, ap, ◌∙◌, IsTrue, IsFalse, Option, Some, None, cond}
use Rattle.std.specs.Ordering.{int_eq}
use Rattle.std.proofs.lemmas.Bool.{cases_Bool, and_from, and_parts, or_left, or_right, or_cases, false≢true, true≢false}
use Rattle.interval_calc.specs.Intervals.{Interval, Within}
use Rattle.query_model.specs.declared.bounds.Nullity.{Nullity}
use Rattle.query_model.specs.declared.bounds.Nullity.TheVariants.{Never, Possibly, Always}
use Rattle.query_model.specs.declared.bounds.Truth.{Truth}
use Rattle.query_model.specs.declared.bounds.Truth.TheVariants.{False, Unknown, True}
use Rattle.query_model.specs.declared.bounds.Truths.{Truths}
use Rattle.query_model.specs.Meaning.{is_null, of_value, of_values, sql_not, sql_and, sql_or, is_sql_true}
use Rattle.query_model.specs.Answers.{same_value}
use Rattle.query_model.specs.Truths.{Range, IsIn, MayBe, truths_of_null, may_be_null, may_be_number, is_true, is_false, and_of, one_null, truth_over, truth_over_both, truths_from, truths_over, truths_over_both, not_over, and_over, or_over, truth_among, truth_of_number, truth_of_null}
use Rattle.query_model.specs.Bounds.{truth_of_part}
use Rattle.query_model.specs.Groups.{is_one_value}
use Rattle.query_model.proofs.Integers.{equal_when, when_equal}
use Rattle.query_model.proofs.Numbers.{Allows, low_within, high_within, one_number, truth_over_allows, truth_over_reached, truth_over_both_allows, truth_over_both_reached}

-- ---- values of a range

-- the first value of a range, and the last one: its ends, or null where it has no number
abbrev pub low_value : Range → Option ℤ
low_value range = cond (may_be_number range.null) (Some range.numbers.low) None

abbrev pub high_value : Range → Option ℤ
high_value range = cond (may_be_number range.null) (Some range.numbers.high) None

pub by_word : (w : Nullity) (i : Interval) (x : ℤ) → Within i x → IsIn (record { null = w; numbers = i }) (cond (may_be_number w) (Some x) None)
by_word Never i x h = (refl, h)
by_word Possibly i x h = (refl, h)
by_word Always i x h = refl

pub low_in : (range : Range) → range.numbers.low ≤ℤ range.numbers.high → IsIn range (low_value range)
low_in range o = by_word range.null range.numbers range.numbers.low (low_within range.numbers o)

pub high_in : (range : Range) → range.numbers.low ≤ℤ range.numbers.high → IsIn range (high_value range)
high_in range o = by_word range.null range.numbers range.numbers.high (high_within range.numbers o)

pub number_value : (w : Nullity) (x : ℤ) → IsTrue (may_be_number w) → ◌≡◌ {A = Option ℤ} (cond (may_be_number w) (Some x) None) (Some x)
number_value Never x h = refl
number_value Possibly x h = refl
number_value Always x h = absurd (false≢true h)

-- ---- values that are the same

pub same_when : (a b : Option ℤ) → a ≡ b → same_value a b ≡ true
same_when None None e = refl
same_when None (Some y) e = absurd (apart e)
  where
    apart : {x : ℤ} → ◌≡◌ {A = Option ℤ} None (Some x) → ⊥
    apart e = cc
same_when (Some x) None e = absurd (apart e)
  where
    apart : {x : ℤ} → ◌≡◌ {A = Option ℤ} (Some x) None → ⊥
    apart e = cc
same_when (Some x) (Some y) e = when_equal x y (inside e)
  where
    inside : {x y : ℤ} → ◌≡◌ {A = Option ℤ} (Some x) (Some y) → x ≡ y
    inside e = cc

pub when_same : (a b : Option ℤ) → same_value a b ≡ true → a ≡ b
when_same None None t = refl
when_same None (Some y) t = absurd (false≢true t)
when_same (Some x) None t = absurd (false≢true t)
when_same (Some x) (Some y) t = ap (λ z. Some z) (equal_when x y t)

pub not_same_when : (a b : Option ℤ) → (a ≡ b → ⊥) → same_value a b ≡ false
not_same_when a b apart = elim (cases_Bool (same_value a b)) [ inl t ↦ absurd (apart (when_same a b t)) | inr f ↦ f ]

-- a range of one value
same_by : (w : Nullity) (i : Interval) (v u : Option ℤ) → IsTrue (cond (may_be_null w) (not (may_be_number w)) (int_eq i.low i.high)) → IsIn (record { null = w; numbers = i }) v → IsIn (record { null = w; numbers = i }) u → v ≡ u
same_by Never i None u s h k = absurd (false≢true h)
same_by Never i (Some x) None s h k = absurd (false≢true k)
same_by Never i (Some x) (Some y) s h k = ap (λ z. Some z) (one_number i x y (equal_when i.low i.high s) h.1 k.1)
same_by Possibly i v u s h k = absurd (false≢true s)
same_by Always i None None s h k = refl
same_by Always i None (Some y) s h k = absurd (false≢true k.0)
same_by Always i (Some x) u s h k = absurd (false≢true h.0)

pub values_same : (range : Range) (v u : Option ℤ) → IsTrue (is_one_value range) → IsIn range v → IsIn range u → v ≡ u
values_same range v u s h k = same_by range.null range.numbers v u s h k

-- another range has another value than any that is given
another_by : (w : Nullity) (i : Interval) (k : Option ℤ) → i.low ≤ℤ i.high → IsFalse (cond (may_be_null w) (not (may_be_number w)) (int_eq i.low i.high)) →
    (v : Option ℤ) × IsIn (record { null = w; numbers = i }) v × (same_value v k ≡ false)
another_by Never i None o s = (Some i.low, (refl, low_within i o), refl)
another_by Never i (Some x) o s =
    elim (cases_Bool (int_eq i.low x)) as (λ _. (v : Option ℤ) × IsIn (record { null = Never; numbers = i }) v × (same_value v (Some x) ≡ false)) [
      | inr f ↦ (Some i.low, (refl, low_within i o), f)
      | inl t ↦ (Some i.high, (refl, high_within i o), not_same_when (Some i.high) (Some x) (λ e. true≢false (sym (when_equal i.low i.high (equal_when i.low x t ∙ sym (inside e))) ∙ s)))
    ]
  where
    inside : {x y : ℤ} → ◌≡◌ {A = Option ℤ} (Some x) (Some y) → x ≡ y
    inside e = cc
another_by Possibly i None o s = (Some i.low, (refl, low_within i o), refl)
another_by Possibly i (Some x) o s = (None, refl, refl)
another_by Always i k o s = absurd (true≢false s)

pub another : (range : Range) (k : Option ℤ) → range.numbers.low ≤ℤ range.numbers.high → IsFalse (is_one_value range) → (v : Option ℤ) × IsIn range v × (same_value v k ≡ false)
another range k o s = another_by range.null range.numbers k o s

-- ---- one of two is null

pub numbers_both : (v w : Nullity) → IsTrue (may_be_number v) → IsTrue (may_be_number w) → IsTrue (may_be_number (one_null v w))
numbers_both Never w h k = k
numbers_both Possibly Never h k = refl
numbers_both Possibly Possibly h k = refl
numbers_both Possibly Always h k = k
numbers_both Always w h k = h

pub both_numbers : (v w : Nullity) → IsTrue (may_be_number (one_null v w)) → IsTrue (may_be_number v) × IsTrue (may_be_number w)
both_numbers Never w h = (refl, h)
both_numbers Possibly Never h = (refl, refl)
both_numbers Possibly Possibly h = (refl, refl)
both_numbers Possibly Always h = absurd (false≢true h)
both_numbers Always w h = absurd (false≢true h)

pub first_null : (v w : Nullity) → IsTrue (may_be_null v) → IsTrue (may_be_null (one_null v w))
first_null Never w h = absurd (false≢true h)
first_null Possibly Never h = refl
first_null Possibly Possibly h = refl
first_null Possibly Always h = refl
first_null Always w h = refl

pub second_null : (v w : Nullity) → IsTrue (may_be_null w) → IsTrue (may_be_null (one_null v w))
second_null Never w h = h
second_null Possibly Never h = refl
second_null Possibly Possibly h = refl
second_null Possibly Always h = refl
second_null Always w h = refl

pub null_of_two : (v w : Nullity) → IsTrue (may_be_null (one_null v w)) → IsTrue (may_be_null v) ⊎ IsTrue (may_be_null w)
null_of_two Never w h = inr h
null_of_two Possibly w h = inl refl
null_of_two Always w h = inl refl

pub values_null : {A : Type 0} (f : ℤ → ℤ → A) (v : Option ℤ) → of_values f v None ≡ None
values_null f None = refl
values_null f (Some x) = refl

-- the range of what is computed of two values
pub in_both : (f : ℤ → ℤ → ℤ) (join : Interval → Interval → Interval) → ((i j : Interval) (x y : ℤ) → Within i x → Within j y → Within (join i j) (f x y)) →
    (u w : Nullity) (i j : Interval) (a b : Option ℤ) → IsIn (record { null = u; numbers = i }) a → IsIn (record { null = w; numbers = j }) b →
    IsIn (record { null = one_null u w; numbers = join i j }) (of_values f a b)
in_both f join law u w i j None b h k = first_null u w h
in_both f join law u w i j (Some x) None h k = second_null u w k
in_both f join law u w i j (Some x) (Some y) h k = (numbers_both u w h.0 k.0, law i j x y h.1 k.1)

-- ---- sets of truths

allowed_true : (t : Truth) → Allows t true → IsTrue (not (is_false t))
allowed_true True a = refl
allowed_true Unknown a = refl
allowed_true False a = absurd (true≢false a)

allowed_false : (t : Truth) → Allows t false → IsTrue (not (is_true t))
allowed_false True a = absurd (false≢true a)
allowed_false Unknown a = refl
allowed_false False a = refl

true_allowed : (t : Truth) → IsTrue (not (is_false t)) → Allows t true
true_allowed True a = refl
true_allowed Unknown a = tt
true_allowed False a = absurd (false≢true a)

false_allowed : (t : Truth) → IsTrue (not (is_true t)) → Allows t false
false_allowed True a = absurd (false≢true a)
false_allowed Unknown a = tt
false_allowed False a = refl

number_may_be : (w : Nullity) (t : Truth) (b : Bool) → IsTrue (may_be_number w) → Allows t b → MayBe (truths_from w t) (Some b)
number_may_be w t true h a = and_from (may_be_number w) (not (is_false t)) h (allowed_true t a)
number_may_be w t false h a = and_from (may_be_number w) (not (is_true t)) h (allowed_false t a)

may_be_of_number : (w : Nullity) (t : Truth) (b : Bool) → MayBe (truths_from w t) (Some b) → IsTrue (may_be_number w) × Allows t b
may_be_of_number w t true h = (let parts = and_parts (may_be_number w) (not (is_false t)) h in (parts.0, true_allowed t parts.1))
may_be_of_number w t false h = (let parts = and_parts (may_be_number w) (not (is_true t)) h in (parts.0, false_allowed t parts.1))

-- ---- a test of a value

pub over_may_be : (range : Range) (test : ℤ → Bool) (v : Option ℤ) → IsIn range v → MayBe (truths_over range test) (of_value test v)
over_may_be range test None h = h
over_may_be range test (Some x) h = number_may_be range.null (truth_over range.numbers test) (test x) h.0 (truth_over_allows range.numbers test x h.1)

-- some value of the range gives each truth that the test may have
pub over_reached : (range : Range) (test : ℤ → Bool) (b : Option Bool) → range.numbers.low ≤ℤ range.numbers.high → MayBe (truths_over range test) b → (v : Option ℤ) × IsIn range v × (of_value test v ≡ b)
over_reached range test None o h = (None, h, refl)
over_reached range test (Some b) o h =
    let parts = may_be_of_number range.null (truth_over range.numbers test) b h in
    let found = truth_over_reached range.numbers test b o parts.1 in
    (Some found.0, (parts.0, found.1), ap (λ z. Some z) found.2)

pub over_both_may_be : (r s : Range) (test : ℤ → ℤ → Bool) (v w : Option ℤ) → IsIn r v → IsIn s w → MayBe (truths_over_both r s test) (of_values test v w)
over_both_may_be r s test None w h k = first_null r.null s.null h
over_both_may_be r s test (Some x) None h k = second_null r.null s.null k
over_both_may_be r s test (Some x) (Some y) h k =
    number_may_be (one_null r.null s.null) (truth_over_both r.numbers s.numbers test) (test x y) (numbers_both r.null s.null h.0 k.0) (truth_over_both_allows r.numbers s.numbers test x y h.1 k.1)

pub over_both_reached : (r s : Range) (test : ℤ → ℤ → Bool) (b : Option Bool) → r.numbers.low ≤ℤ r.numbers.high → s.numbers.low ≤ℤ s.numbers.high → MayBe (truths_over_both r s test) b →
    (v w : Option ℤ) × IsIn r v × IsIn s w × (of_values test v w ≡ b)
over_both_reached r s test None o o' h =
    elim (null_of_two r.null s.null h) [
      | inl n ↦ (None, low_value s, n, low_in s o', refl)
      | inr n ↦ (low_value r, None, low_in r o, n, values_null test (low_value r))
    ]
over_both_reached r s test (Some b) o o' h =
    let parts = may_be_of_number (one_null r.null s.null) (truth_over_both r.numbers s.numbers test) b h in
    let both = both_numbers r.null s.null parts.0 in
    let found = truth_over_both_reached r.numbers s.numbers test b o o' parts.1 in
    (Some found.0, Some found.1, (both.0, found.2), (both.1, found.3), ap (λ z. Some z) found.4)

-- a test of whether the value is null
pub null_may_be : (range : Range) (v : Option ℤ) → IsIn range v → MayBe (truths_of_null range) (Some (is_null v))
null_may_be range None h = h
null_may_be range (Some x) h = h.0

pub null_test_reached : (range : Range) (b : Option Bool) → range.numbers.low ≤ℤ range.numbers.high → MayBe (truths_of_null range) b → (v : Option ℤ) × IsIn range v × (Some (is_null v) ≡ b)
null_test_reached range None o h = absurd (false≢true h)
null_test_reached range (Some true) o h = (None, h, refl)
null_test_reached range (Some false) o h = (Some range.numbers.low, (h, low_within range.numbers o), refl)

-- ---- NOT, AND and OR

pub may_be_not : (t : Truths) (x : Option Bool) → MayBe t x → MayBe (not_over t) (sql_not x)
may_be_not t None h = h
may_be_not t (Some true) h = h
may_be_not t (Some false) h = h

pub not_reached : (t : Truths) (b : Option Bool) → MayBe (not_over t) b → (x : Option Bool) × MayBe t x × (sql_not x ≡ b)
not_reached t None h = (None, h, refl)
not_reached t (Some true) h = (Some false, h, refl)
not_reached t (Some false) h = (Some true, h, refl)

pub may_be_and : (t u : Truths) (x y : Option Bool) → MayBe t x → MayBe u y → MayBe (and_over t u) (sql_and x y)
may_be_and t u (Some false) y h k = or_left t.may_fail u.may_fail h
may_be_and t u (Some true) (Some true) h k = and_from t.may_hold u.may_hold h k
may_be_and t u (Some true) (Some false) h k = or_right t.may_fail u.may_fail k
may_be_and t u (Some true) None h k = or_right (t.may_be_null && u.may_be_null || t.may_be_null && u.may_hold) (t.may_hold && u.may_be_null) (and_from t.may_hold u.may_be_null h k)
may_be_and t u None (Some true) h k =
    or_left (t.may_be_null && u.may_be_null || t.may_be_null && u.may_hold) (t.may_hold && u.may_be_null) (or_right (t.may_be_null && u.may_be_null) (t.may_be_null && u.may_hold) (and_from t.may_be_null u.may_hold h k))
may_be_and t u None (Some false) h k = or_right t.may_fail u.may_fail k
may_be_and t u None None h k =
    or_left (t.may_be_null && u.may_be_null || t.may_be_null && u.may_hold) (t.may_hold && u.may_be_null) (or_left (t.may_be_null && u.may_be_null) (t.may_be_null && u.may_hold) (and_from t.may_be_null u.may_be_null h k))

pub may_be_or : (t u : Truths) (x y : Option Bool) → MayBe t x → MayBe u y → MayBe (or_over t u) (sql_or x y)
may_be_or t u (Some true) y h k = or_left t.may_hold u.may_hold h
may_be_or t u (Some false) (Some false) h k = and_from t.may_fail u.may_fail h k
may_be_or t u (Some false) (Some true) h k = or_right t.may_hold u.may_hold k
may_be_or t u (Some false) None h k = or_right (t.may_be_null && u.may_be_null || t.may_be_null && u.may_fail) (t.may_fail && u.may_be_null) (and_from t.may_fail u.may_be_null h k)
may_be_or t u None (Some false) h k =
    or_left (t.may_be_null && u.may_be_null || t.may_be_null && u.may_fail) (t.may_fail && u.may_be_null) (or_right (t.may_be_null && u.may_be_null) (t.may_be_null && u.may_fail) (and_from t.may_be_null u.may_fail h k))
may_be_or t u None (Some true) h k = or_right t.may_hold u.may_hold k
may_be_or t u None None h k =
    or_left (t.may_be_null && u.may_be_null || t.may_be_null && u.may_fail) (t.may_fail && u.may_be_null) (or_left (t.may_be_null && u.may_be_null) (t.may_be_null && u.may_fail) (and_from t.may_be_null u.may_be_null h k))

-- a set that is not empty
abbrev pub SomeTruth : Truths → Type 0
SomeTruth t = (x : Option Bool) × MayBe t x

-- one truth of each side that together give this one
abbrev pub Sides : (Option Bool → Option Bool → Option Bool) → Truths → Truths → Option Bool → Type 0
Sides join t u b = (x y : Option Bool) × MayBe t x × MayBe u y × (join x y ≡ b)

false_and : (x : Option Bool) → sql_and x (Some false) ≡ Some false
false_and None = refl
false_and (Some true) = refl
false_and (Some false) = refl

true_or : (x : Option Bool) → sql_or x (Some true) ≡ Some true
true_or None = refl
true_or (Some true) = refl
true_or (Some false) = refl

pub and_reached : (t u : Truths) (b : Option Bool) → SomeTruth t → SomeTruth u → MayBe (and_over t u) b → Sides sql_and t u b
and_reached t u (Some true) (x, p) (y, q) h = (let parts = and_parts t.may_hold u.may_hold h in (Some true, Some true, parts.0, parts.1, refl))
and_reached t u (Some false) (x, p) (y, q) h =
    elim (or_cases t.may_fail u.may_fail h) as (λ _. Sides sql_and t u (Some false)) [
      | inl f ↦ (Some false, y, f, q, refl)
      | inr f ↦ (x, Some false, p, f, false_and x)
    ]
and_reached t u None (x, p) (y, q) h =
    elim (or_cases (t.may_be_null && u.may_be_null || t.may_be_null && u.may_hold) (t.may_hold && u.may_be_null) h) as (λ _. Sides sql_and t u None) [
      | inl first ↦ elim (or_cases (t.may_be_null && u.may_be_null) (t.may_be_null && u.may_hold) first) as (λ _. Sides sql_and t u None) [
        | inl n ↦ (let parts = and_parts t.may_be_null u.may_be_null n in (None, None, parts.0, parts.1, refl))
        | inr n ↦ (let parts = and_parts t.may_be_null u.may_hold n in (None, Some true, parts.0, parts.1, refl))
      ]
      | inr n ↦ (let parts = and_parts t.may_hold u.may_be_null n in (Some true, None, parts.0, parts.1, refl))
    ]

pub or_reached : (t u : Truths) (b : Option Bool) → SomeTruth t → SomeTruth u → MayBe (or_over t u) b → Sides sql_or t u b
or_reached t u (Some false) (x, p) (y, q) h = (let parts = and_parts t.may_fail u.may_fail h in (Some false, Some false, parts.0, parts.1, refl))
or_reached t u (Some true) (x, p) (y, q) h =
    elim (or_cases t.may_hold u.may_hold h) as (λ _. Sides sql_or t u (Some true)) [
      | inl f ↦ (Some true, y, f, q, refl)
      | inr f ↦ (x, Some true, p, f, true_or x)
    ]
or_reached t u None (x, p) (y, q) h =
    elim (or_cases (t.may_be_null && u.may_be_null || t.may_be_null && u.may_fail) (t.may_fail && u.may_be_null) h) as (λ _. Sides sql_or t u None) [
      | inl first ↦ elim (or_cases (t.may_be_null && u.may_be_null) (t.may_be_null && u.may_fail) first) as (λ _. Sides sql_or t u None) [
        | inl n ↦ (let parts = and_parts t.may_be_null u.may_be_null n in (None, None, parts.0, parts.1, refl))
        | inr n ↦ (let parts = and_parts t.may_be_null u.may_fail n in (None, Some false, parts.0, parts.1, refl))
      ]
      | inr n ↦ (let parts = and_parts t.may_fail u.may_be_null n in (Some false, None, parts.0, parts.1, refl))
    ]

-- ---- whether the condition holds

among_allows : (h f n : Bool) (x : Option Bool) → MayBe (record { may_hold = h; may_fail = f; may_be_null = n }) x → Allows (truth_among (record { may_hold = h; may_fail = f; may_be_null = n })) (is_sql_true x)
among_allows true true n x m = tt
among_allows true false true x m = tt
among_allows true false false None m = absurd (false≢true m)
among_allows true false false (Some true) m = refl
among_allows true false false (Some false) m = absurd (false≢true m)
among_allows false f n None m = refl
among_allows false f n (Some true) m = absurd (false≢true m)
among_allows false f n (Some false) m = refl

pub truth_among_allows : (t : Truths) (x : Option Bool) → MayBe t x → Allows (truth_among t) (is_sql_true x)
truth_among_allows t x m = among_allows t.may_hold t.may_fail t.may_be_null x m

-- a truth of the set that is, or is not, true
abbrev pub TruthWith : Truths → Bool → Type 0
TruthWith t b = (x : Option Bool) × MayBe t x × (is_sql_true x ≡ b)

among_reached : (h f n b : Bool) → SomeTruth (record { may_hold = h; may_fail = f; may_be_null = n }) → Allows (truth_among (record { may_hold = h; may_fail = f; may_be_null = n })) b →
    TruthWith (record { may_hold = h; may_fail = f; may_be_null = n }) b
among_reached true f n true some a = (Some true, refl, refl)
among_reached true true n false some a = (Some false, refl, refl)
among_reached true false true false some a = (None, refl, refl)
among_reached true false false false some a = absurd (false≢true a)
among_reached false f n b (None, m) a = (None, m, sym a)
among_reached false f n b (Some true, m) a = absurd (false≢true m)
among_reached false f n b (Some false, m) a = (Some false, m, sym a)

pub truth_among_reached : (t : Truths) (b : Bool) → SomeTruth t → Allows (truth_among t) b → TruthWith t b
truth_among_reached t b some a = among_reached t.may_hold t.may_fail t.may_be_null b some a

-- ---- both of two statements

pub allows_and : (t u : Truth) (x y : Bool) → Allows t x → Allows u y → Allows (and_of t u) (x && y)
allows_and False u x y a b = ap (λ z. z && y) a
allows_and Unknown False true y a b = b
allows_and Unknown False false y a b = refl
allows_and Unknown Unknown x y a b = tt
allows_and Unknown True x y a b = tt
allows_and True False x y a b = ap (λ z. z && y) a ∙ b
allows_and True Unknown x y a b = tt
allows_and True True x y a b = ap (λ z. z && y) a ∙ b

-- each truth allows some value
some_value : (t : Truth) → (x : Bool) × Allows t x
some_value True = (true, refl)
some_value Unknown = (false, tt)
some_value False = (false, refl)

pub allowed_and : (t u : Truth) (b : Bool) → Allows (and_of t u) b → (x y : Bool) × Allows t x × Allows u y × ((x && y) ≡ b)
allowed_and False u b a = (let other = some_value u in (false, other.0, refl, other.1, sym a))
allowed_and Unknown False b a = (false, false, tt, refl, sym a)
allowed_and Unknown Unknown b a = (b, b, tt, tt, both_same b)
  where
    both_same : (b : Bool) → (b && b) ≡ b
    both_same true = refl
    both_same false = refl
allowed_and Unknown True true a = (true, true, tt, refl, refl)
allowed_and Unknown True false a = (false, true, tt, refl, refl)
allowed_and True u b a = (true, b, refl, a, refl)

-- ---- a part of a key

null_allows : (w : Nullity) → IsTrue (may_be_null w) → Allows (truth_of_null w) true
null_allows Never h = absurd (false≢true h)
null_allows Possibly h = tt
null_allows Always h = refl

not_null_allows : (w : Nullity) → IsTrue (may_be_number w) → Allows (truth_of_null w) false
not_null_allows Never h = refl
not_null_allows Possibly h = tt
not_null_allows Always h = absurd (false≢true h)

pub number_allows : (w : Nullity) → IsTrue (may_be_number w) → Allows (truth_of_number w) true
number_allows Never h = refl
number_allows Possibly h = tt
number_allows Always h = absurd (false≢true h)

pub no_number_allows : (w : Nullity) → IsTrue (may_be_null w) → Allows (truth_of_number w) false
no_number_allows Never h = absurd (false≢true h)
no_number_allows Possibly h = tt
no_number_allows Always h = refl

pub number_allowed : (w : Nullity) → Allows (truth_of_number w) true → IsTrue (may_be_number w)
number_allowed Never a = refl
number_allowed Possibly a = refl
number_allowed Always a = absurd (true≢false a)

pub no_number_allowed : (w : Nullity) → Allows (truth_of_number w) false → IsTrue (may_be_null w)
no_number_allowed Never a = absurd (false≢true a)
no_number_allowed Possibly a = refl
no_number_allowed Always a = refl

null_allowed : (w : Nullity) (b : Bool) → Allows (truth_of_null w) b → ((b ≡ true) × IsTrue (may_be_null w)) ⊎ ((b ≡ false) × IsTrue (may_be_number w))
null_allowed Never b a = inr (a, refl)
null_allowed Possibly true a = inl (refl, refl)
null_allowed Possibly false a = inr (refl, refl)
null_allowed Always b a = inl (a, refl)

-- a value of the range is the part of the key, or is not
pub part_allows : (range : Range) (k v : Option ℤ) → IsIn range v → Allows (truth_of_part range k) (same_value v k)
part_allows range None None h = null_allows range.null h
part_allows range None (Some x) h = not_null_allows range.null h.0
part_allows range (Some k) None h = subst (Allows (truth_of_part range (Some k))) refl (no_part (truth_of_number range.null) (truth_over range.numbers (λ x. int_eq x k)) (no_number_allows range.null h))
  where
    no_part : (t u : Truth) → Allows t false → Allows (and_of t u) false
    no_part False u a = refl
    no_part Unknown False a = refl
    no_part Unknown Unknown a = tt
    no_part Unknown True a = tt
    no_part True u a = absurd (false≢true a)
part_allows range (Some k) (Some x) h =
    allows_and (truth_of_number range.null) (truth_over range.numbers (λ x. int_eq x k)) true (int_eq x k) (number_allows range.null h.0) (truth_over_allows range.numbers (λ x. int_eq x k) x h.1)

pub part_reached : (range : Range) (k : Option ℤ) (b : Bool) → range.numbers.low ≤ℤ range.numbers.high → Allows (truth_of_part range k) b → (v : Option ℤ) × IsIn range v × (same_value v k ≡ b)
part_reached range None b o a =
    elim (null_allowed range.null b a) as (λ _. (v : Option ℤ) × IsIn range v × (same_value v None ≡ b)) [
      | inl (is, n) ↦ (None, n, sym is)
      | inr (is, n) ↦ (Some range.numbers.low, (n, low_within range.numbers o), sym is)
    ]
part_reached range (Some k) b o a =
    let sides = allowed_and (truth_of_number range.null) (truth_over range.numbers (λ x. int_eq x k)) b a in
    by_number sides.0 sides.1 sides.2 sides.3 sides.4
  where
    by_number : (x y : Bool) → Allows (truth_of_number range.null) x → Allows (truth_over range.numbers (λ x. int_eq x k)) y → (x && y) ≡ b → (v : Option ℤ) × IsIn range v × (same_value v (Some k) ≡ b)
    by_number true y n t is = (let found = truth_over_reached range.numbers (λ x. int_eq x k) y o t in (Some found.0, (number_allowed range.null n, found.1), found.2 ∙ is))
    by_number false y n t is = (None, no_number_allowed range.null n, is)
