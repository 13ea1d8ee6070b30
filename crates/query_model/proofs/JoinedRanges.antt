-- Ranges of one column that are joined by AND, where they meet, hold together at some row.
use Rattle.std.proofs.Common.{◌≡◌, ℕ, ℤ, ◌≤ℤ◌, int_le, int_lt, ◌<ℤ◌, Bool, true, false, cond, ◌&&◌, List, [], ◌∷◌, ◌++◌, ◌⊎◌, inl, inr, refl, arith, subst, sym, ap, ◌∙◌, IsTrue, Option, Some, None}
use Rattle.std.specs.List.{AllByRecursion}
use Rattle.std.proofs.lemmas.Bool.{cond_both, cond-true, cond-false, and_from, and_parts, and_cases, cases_Bool, cases_eq, false≢true}
use Rattle.std.proofs.lemmas.Int.{ints}
use Rattle.interval_calc.specs.Intervals.{Within}
use Rattle.query_model.specs.Queries.{Condition, All, Single, Both, Either, Negation, Query}
use Rattle.query_model.specs.declared.query.Atom.{Atom}
use Rattle.query_model.specs.declared.query.Atom.TheVariants.{Compare, CompareColumns, Between, OneOf, IsNull}
use Rattle.query_model.specs.declared.query.Comparison.TheVariants.{Eq, Ne, Lt, Le, Gt, Ge}
use Rattle.query_model.specs.Meaning.{Row, of_value, compares, between, sql_and, atom_truth, truth, is_sql_true, holds, columns_of_atom, columns_of_pred}
use Rattle.query_model.specs.Truths.{MayBe, Ranges, IsIn, IsRowWithin, may_be_number, truths_of_atom, truths_of, truth_of}
use Rattle.query_model.specs.Answers.{in_group, passes, groups_of}
use Rattle.query_model.specs.Bounds.{truth_of_group, truth_of_row}
use Rattle.query_model.specs.Validity.{no_repeats}
use Rattle.query_model.specs.Attaining.{AllMeet, AttainsTruths, JoinsRanges, Meet, NoneShared, beside_ranges, is_range, ranges_in}
use Rattle.query_model.specs.Laws.{NoneEmpty}
use Rattle.query_model.proofs.Integers.{equal_when, when_equal}
use Rattle.query_model.proofs.Members.{by_word, number_value, over_reached, and_reached, truth_among_allows, truth_among_reached, allows_and, allowed_and}
use Rattle.query_model.proofs.Numbers.{Allows, low_within}
use Rattle.query_model.proofs.Rows.{SomeRow, counts, each_truth_reached, group_reached, merged, merged_chosen, no_repeats_parts, passes_depends, row_reached, some_truth}

-- ---- sets of numbers without gaps

abbrev IsConvex : (ℤ → Type 0) → Type 0
IsConvex P = (x y z : ℤ) → x ≤ℤ y → y ≤ℤ z → P x → P z → P y

in_order : (x y : ℤ) → (x ≤ℤ y) ⊎ (y ≤ℤ x)
in_order x y = elim (cases_Bool (int_le x y)) [ inl t ↦ inl (omega (arith, ints)) | inr f ↦ inr (omega (arith, ints)) ]

-- three of them that meet by twos have a number in common: the middle one of the three
middle : (P Q R : ℤ → Type 0) → IsConvex P → IsConvex Q → IsConvex R → (x y z : ℤ) → P x → Q x → P y → R y → Q z → R z → (m : ℤ) × P m × Q m × R m
middle P Q R p q r x y z px qx py ry qz rz =
    elim (in_order x y) as (λ _. (m : ℤ) × P m × Q m × R m) [
      | inl xy ↦ elim (in_order y z) as (λ _. (m : ℤ) × P m × Q m × R m) [
        | inl yz ↦ (y, py, q x y z xy yz qx qz, ry)
        | inr zy ↦ elim (in_order x z) as (λ _. (m : ℤ) × P m × Q m × R m) [
          | inl xz ↦ (z, p x z y xz zy px py, qz, rz)
          | inr zx ↦ (x, px, qx, r z x y zx xy rz ry)
        ]
      ]
      | inr yx ↦ elim (in_order x z) as (λ _. (m : ℤ) × P m × Q m × R m) [
        | inl xz ↦ (x, px, qx, r y x z yx xz ry rz)
        | inr zx ↦ elim (in_order y z) as (λ _. (m : ℤ) × P m × Q m × R m) [
          | inl yz ↦ (z, p y z x yz zx py px, qz, rz)
          | inr zy ↦ (y, py, q z y x zy yx qz qx, ry)
        ]
      ]
    ]

-- ---- the ranges of atoms

abbrev test_of : Atom → ℤ → Bool
test_of (Compare c op v) x = compares op x v
test_of (CompareColumns l op r) x = true
test_of (Between c low high) x = between low high x
test_of (OneOf c values) x = true
test_of (IsNull c) x = true

abbrev column_in : Atom → ℕ
column_in (Compare c op v) = c
column_in (CompareColumns l op r) = l
column_in (Between c low high) = c
column_in (OneOf c values) = c
column_in (IsNull c) = c

le_is : (a b : ℤ) → a ≤ℤ b → int_le a b ≡ true
le_is a b h = elim (cases_Bool (int_le a b)) [ inl t ↦ t | inr f ↦ absurd (omega (arith, ints)) ]

le_holds : (a b : ℤ) → int_le a b ≡ true → a ≤ℤ b
le_holds a b t = omega (arith, ints)

lt_is : (a b : ℤ) → a <ℤ b → int_lt a b ≡ true
lt_is a b h = elim (cases_Bool (int_lt a b)) [ inl t ↦ t | inr f ↦ absurd (omega (arith, ints)) ]

lt_holds : (a b : ℤ) → int_lt a b ≡ true → a <ℤ b
lt_holds a b t = omega (arith, ints)

range_convex : (a : Atom) → IsTrue (is_range a) → IsConvex (λ x. IsTrue (test_of a x))
range_convex (Compare c Eq v) t x y z h k p q =
    let low = equal_when x v p in let high = equal_when z v q in let same : y ≡ v = omega (arith, ints) in when_equal y v same
range_convex (Compare c Ne v) t x y z h k p q = absurd (false≢true t)
range_convex (Compare c Lt v) t x y z h k p q = (let high = lt_holds z v q in lt_is y v (omega (arith, ints)))
range_convex (Compare c Le v) t x y z h k p q = (let high = le_holds z v q in le_is y v (omega (arith, ints)))
range_convex (Compare c Gt v) t x y z h k p q = (let low = lt_holds v x p in lt_is v y (omega (arith, ints)))
range_convex (Compare c Ge v) t x y z h k p q = (let low = le_holds v x p in le_is v y (omega (arith, ints)))
range_convex (CompareColumns l op r) t x y z h k p q = absurd (false≢true t)
range_convex (Between c low high) t x y z h k p q =
    let first = and_parts (int_le low x) (int_le x high) p in
    let last = and_parts (int_le low z) (int_le z high) q in
    let above = le_holds low x first.0 in
    let below = le_holds z high last.1 in
    and_from (int_le low y) (int_le y high) (le_is low y (omega (arith, ints))) (le_is y high (omega (arith, ints)))
range_convex (OneOf c values) t x y z h k p q = absurd (false≢true t)
range_convex (IsNull c) t x y z h k p q = absurd (false≢true t)

range_column : (a : Atom) → IsTrue (is_range a) → columns_of_atom a ≡ column_in a ∷ []
range_column (Compare c op v) t = refl
range_column (CompareColumns l op r) t = absurd (false≢true t)
range_column (Between c low high) t = refl
range_column (OneOf c values) t = absurd (false≢true t)
range_column (IsNull c) t = absurd (false≢true t)

range_is_true : (a : Atom) → IsTrue (is_range a) → (row : Row) (x : ℤ) → row (column_in a) ≡ Some x → IsTrue (test_of a x) → atom_truth a row ≡ Some true
range_is_true (Compare c op v) t row x e is = ap (of_value (λ x. compares op x v)) e ∙ ap (λ b. Some b) is
range_is_true (CompareColumns l op r) t row x e is = absurd (false≢true t)
range_is_true (Between c low high) t row x e is = ap (of_value (between low high)) e ∙ ap (λ b. Some b) is
range_is_true (OneOf c values) t row x e is = absurd (false≢true t)
range_is_true (IsNull c) t row x e is = absurd (false≢true t)

-- a number that passes
abbrev Passing : (ℤ → Bool) → Option ℤ → Type 0
Passing test v = (x : ℤ) × (v ≡ Some x) × IsTrue (test x)

value_passes : (test : ℤ → Bool) (v : Option ℤ) → of_value test v ≡ Some true → Passing test v
value_passes test None e = cc
value_passes test (Some x) e = (x, refl, cc)

range_passes : (a : Atom) → IsTrue (is_range a) → (row : Row) → atom_truth a row ≡ Some true → Passing (test_of a) (row (column_in a))
range_passes (Compare c op v) t row e = value_passes (λ x. compares op x v) (row c) e
range_passes (CompareColumns l op r) t row e = absurd (false≢true t)
range_passes (Between c low high) t row e = value_passes (between low high) (row c) e
range_passes (OneOf c values) t row e = absurd (false≢true t)
range_passes (IsNull c) t row e = absurd (false≢true t)

-- a number of the column's range passes
record MayPass (a : Atom) (ranges : Ranges) : Type 0 where
  pub number : IsTrue (may_be_number (ranges (column_in a)).null)
  pub passing : ℤ
  pub within : Within (ranges (column_in a)).numbers passing
  pub passes : IsTrue (test_of a passing)

range_may_pass : (a : Atom) (ranges : Ranges) → NoneEmpty ranges → IsTrue (is_range a) → MayBe (truths_of_atom a ranges) (Some true) → MayPass a ranges
range_may_pass (Compare c op v) ranges o t m = of_test (over_reached (ranges c) (λ x. compares op x v) (Some true) (o c) m)
  where
    of_test : (u : Option ℤ) × IsIn (ranges c) u × (of_value (λ x. compares op x v) u ≡ Some true) → MayPass (Compare c op v) ranges
    of_test (None, h, e) = cc
    of_test (Some x, h, e) = record { number = h.0; passing = x; within = h.1; passes = cc }
range_may_pass (CompareColumns l op r) ranges o t m = absurd (false≢true t)
range_may_pass (Between c low high) ranges o t m = of_test (over_reached (ranges c) (between low high) (Some true) (o c) m)
  where
    of_test : (u : Option ℤ) × IsIn (ranges c) u × (of_value (between low high) u ≡ Some true) → MayPass (Between c low high) ranges
    of_test (None, h, e) = cc
    of_test (Some x, h, e) = record { number = h.0; passing = x; within = h.1; passes = cc }
range_may_pass (OneOf c values) ranges o t m = absurd (false≢true t)
range_may_pass (IsNull c) ranges o t m = absurd (false≢true t)

-- ---- a number for each column, out of a set without gaps, at which all ranges hold

abbrev AreRanges : List Atom → Type 0
AreRanges atoms = AllByRecursion (λ a. IsTrue (is_range a)) atoms

-- the set of the atom's column has a number that passes
abbrev Reaches : (ℕ → ℤ → Type 0) → Atom → Type 0
Reaches sets a = (x : ℤ) × sets (column_in a) x × IsTrue (test_of a x)

-- the sets without what does not pass
abbrev less : (ℕ → ℤ → Type 0) → Atom → ℕ → ℤ → Type 0
less sets a c x = sets c x × (c ≡ column_in a → IsTrue (test_of a x))

-- what both let through, where they are ranges of one column
number_of_both : (a b : Atom) → IsTrue (is_range a) → IsTrue (is_range b) → column_in b ≡ column_in a → Meet a b → (x : ℤ) × IsTrue (test_of a x) × IsTrue (test_of b x)
number_of_both a b s t e meet =
    let found = meet (range_column a s ∙ ap (λ c. c ∷ []) (sym e) ∙ sym (range_column b t)) in
    let first = range_passes a s found.0 found.1 in
    let second = range_passes b t found.0 found.2 in
    let same : first.0 ≡ second.0 = one_value (found.0 (column_in a)) first.0 second.0 first.1 (sym (ap found.0 e) ∙ second.1) in
    (second.0, subst (λ x. IsTrue (test_of a x)) same first.2, second.2)
  where
    one_value : (v : Option ℤ) (x y : ℤ) → v ≡ Some x → v ≡ Some y → x ≡ y
    one_value v x y d e = cc

module _ (a : Atom) (sets : ℕ → ℤ → Type 0) (convex : (c : ℕ) → IsConvex (sets c)) (is : IsTrue (is_range a)) where
  less_convex : (c : ℕ) → IsConvex (less sets a c)
  less_convex c x y z h k p q = (convex c x y z h k p.0 q.0, (λ e. range_convex a is x y z h k (p.1 e) (q.1 e)))

  less_some : ((c : ℕ) → (x : ℤ) × sets c x) → Reaches sets a → (c : ℕ) → (x : ℤ) × less sets a c x
  less_some some m c =
      elim (cases_eq c (column_in a)) as (λ _. (x : ℤ) × less sets a c x) [
        | inl e ↦ (m.0, (subst (λ d. sets d m.0) (sym e) m.1, (λ _. m.2)))
        | inr n ↦ ((some c).0, ((some c).1, (λ e. absurd (n e))))
      ]

  less_reaches : (b : Atom) → IsTrue (is_range b) → Reaches sets a → Reaches sets b → Meet a b → Reaches (less sets a) b
  less_reaches b t m n meet =
      elim (cases_eq (column_in b) (column_in a)) as (λ _. Reaches (less sets a) b) [
        | inl e ↦ (let z = number_of_both a b is t e meet in
            let found = middle (sets (column_in b)) (λ x. IsTrue (test_of a x)) (λ x. IsTrue (test_of b x)) (convex (column_in b)) (range_convex a is) (range_convex b t)
            m.0 n.0 z.0 (subst (λ d. sets d m.0) (sym e) m.1) m.2 n.1 n.2 z.1 z.2 in
            (found.0, (found.1, (λ _. found.2)), found.3))
        | inr other ↦ (n.0, (n.1, (λ e. absurd (other e))), n.2)
      ]

  less_reach : (atoms : List Atom) → AreRanges atoms → Reaches sets a → AllByRecursion (Reaches sets) atoms → AllByRecursion (Meet a) atoms → AllByRecursion (Reaches (less sets a)) atoms
  less_reach [] t m n meet = tt
  less_reach (b ∷ bs) t m n meet = (less_reaches b t.0 m n.0 meet.0, less_reach bs t.1 m n.1 meet.1)

choose : (atoms : List Atom) (sets : ℕ → ℤ → Type 0) → ((c : ℕ) → IsConvex (sets c)) → ((c : ℕ) → (x : ℤ) × sets c x) → AreRanges atoms → AllByRecursion (Reaches sets) atoms → AllMeet atoms →
    (f : ℕ → ℤ) × ((c : ℕ) → sets c (f c)) × AllByRecursion (λ a. IsTrue (test_of a (f (column_in a)))) atoms
choose [] sets convex some t m meet = ((λ c. (some c).0), (λ c. (some c).1), tt)
choose (a ∷ atoms) sets convex some t m meet =
    let rest = choose atoms (less sets a) (less_convex a sets convex t.0) (less_some a sets convex t.0 some m.0) t.1 (less_reach a sets convex t.0 atoms t.1 m.0 m.1 meet.0) meet.1 in
    (rest.0, (λ c. (rest.1 c).0), ((rest.1 (column_in a)).1 refl, rest.2))

-- ---- the operands of the top ANDs

all_append : (P : Atom → Type 0) (xs ys : List Atom) → AllByRecursion P xs → AllByRecursion P ys → AllByRecursion P (xs ++ ys)
all_append P [] ys h k = k
all_append P (x ∷ xs) ys h k = (h.0, all_append P xs ys h.1 k)

all_left : (P : Atom → Type 0) (xs ys : List Atom) → AllByRecursion P (xs ++ ys) → AllByRecursion P xs
all_left P [] ys h = tt
all_left P (x ∷ xs) ys h = (h.0, all_left P xs ys h.1)

all_right : (P : Atom → Type 0) (xs ys : List Atom) → AllByRecursion P (xs ++ ys) → AllByRecursion P ys
all_right P [] ys h = h
all_right P (x ∷ xs) ys h = all_right P xs ys h.1

one_if : (P : Atom → Type 0) (a : Atom) (b : Bool) → (b ≡ true → P a) → AllByRecursion P (cond b (a ∷ []) [])
one_if P a true h = (h refl, tt)
one_if P a false h = tt

are_ranges : (p : Condition) → AreRanges (ranges_in p)
are_ranges All = tt
are_ranges (Single atom) = one_if (λ a. IsTrue (is_range a)) atom (is_range atom) (λ t. t)
are_ranges (Both a b) = all_append _ (ranges_in a) (ranges_in b) (are_ranges a) (are_ranges b)
are_ranges (Either a b) = tt
are_ranges (Negation a) = tt

-- both sides of an AND that is true are
both_true : (u v : Option Bool) → sql_and u v ≡ Some true → (u ≡ Some true) × (v ≡ Some true)
both_true (Some true) v e = (refl, e)
both_true (Some false) v e = cc
both_true None None e = cc
both_true None (Some true) e = cc
both_true None (Some false) e = cc

-- where the condition may be true, so may each of its ranges, and what is beside them
ranges_may : (p : Condition) (ranges : Ranges) → MayBe (truths_of p ranges) (Some true) → AllByRecursion (λ a. MayBe (truths_of_atom a ranges) (Some true)) (ranges_in p)
ranges_may All ranges m = tt
ranges_may (Single atom) ranges m = one_if (λ a. MayBe (truths_of_atom a ranges) (Some true)) atom (is_range atom) (λ _. m)
ranges_may (Both a b) ranges m =
    let parts = and_parts (truths_of a ranges).may_hold (truths_of b ranges).may_hold m in
    all_append _ (ranges_in a) (ranges_in b) (ranges_may a ranges parts.0) (ranges_may b ranges parts.1)
ranges_may (Either a b) ranges m = tt
ranges_may (Negation a) ranges m = tt

beside_may : (p : Condition) (ranges : Ranges) → MayBe (truths_of p ranges) (Some true) → MayBe (truths_of (beside_ranges p) ranges) (Some true)
beside_may All ranges m = m
beside_may (Single atom) ranges m = cond_both (is_range atom) All (Single atom) (λ q. MayBe (truths_of q ranges) (Some true)) (λ _. refl) (λ _. m)
beside_may (Both a b) ranges m =
    let parts = and_parts (truths_of a ranges).may_hold (truths_of b ranges).may_hold m in
    and_from (truths_of (beside_ranges a) ranges).may_hold (truths_of (beside_ranges b) ranges).may_hold (beside_may a ranges parts.0) (beside_may b ranges parts.1)
beside_may (Either a b) ranges m = m
beside_may (Negation a) ranges m = m

-- where its ranges are true and what is beside them, so is the condition
truth_from_parts : (p : Condition) (row : Row) → AllByRecursion (λ a. atom_truth a row ≡ Some true) (ranges_in p) → truth (beside_ranges p) row ≡ Some true → truth p row ≡ Some true
truth_from_parts All row h e = e
truth_from_parts (Single atom) row h e = by_kind (is_range atom) h e
  where
    by_kind : (b : Bool) → AllByRecursion (λ a. atom_truth a row ≡ Some true) (cond b (atom ∷ []) []) → truth (cond b All (Single atom)) row ≡ Some true → atom_truth atom row ≡ Some true
    by_kind true h e = h.0
    by_kind false h e = e
truth_from_parts (Both a b) row h e =
    let sides = both_true (truth (beside_ranges a) row) (truth (beside_ranges b) row) e in
    let x = truth_from_parts a row (all_left _ (ranges_in a) (ranges_in b) h) sides.0 in
    let y = truth_from_parts b row (all_right _ (ranges_in a) (ranges_in b) h) sides.1 in
    ap (λ u. sql_and u (truth b row)) x ∙ y
truth_from_parts (Either a b) row h e = e
truth_from_parts (Negation a) row h e = e

-- ---- a row at which the condition does not hold

one_not_true : (u v : Option Bool) → is_sql_true (sql_and u v) ≡ false → (is_sql_true u ≡ false) ⊎ (is_sql_true v ≡ false)
one_not_true (Some true) v e = inr e
one_not_true (Some false) v e = inl refl
one_not_true None v e = inl refl

left_not_true : (u v : Option Bool) → is_sql_true u ≡ false → is_sql_true (sql_and u v) ≡ false
left_not_true (Some true) v e = cc
left_not_true (Some false) v e = refl
left_not_true None None e = refl
left_not_true None (Some true) e = refl
left_not_true None (Some false) e = refl

right_not_true : (u v : Option Bool) → is_sql_true v ≡ false → is_sql_true (sql_and u v) ≡ false
right_not_true (Some true) v e = e
right_not_true (Some false) v e = refl
right_not_true None None e = refl
right_not_true None (Some true) e = refl
right_not_true None (Some false) e = refl

range_once : (a : Atom) → IsTrue (is_range a) → IsTrue (no_repeats (columns_of_atom a))
range_once a t = subst (λ cs. IsTrue (no_repeats cs)) (sym (range_column a t)) refl

held_as : (p : Condition) (ranges : Ranges) (u : Option Bool) → NoneEmpty ranges → IsTrue (no_repeats (columns_of_pred p)) →
    MayBe (truths_of p ranges) u → is_sql_true u ≡ false → SomeRow ranges (holds p) false
held_as p ranges u o once m e = (let found = each_truth_reached p ranges u o once m in (found.0, found.1, ap is_sql_true found.2 ∙ e))

not_held : (p : Condition) (ranges : Ranges) (u : Option Bool) → NoneEmpty ranges → IsTrue (no_repeats (columns_of_pred (beside_ranges p))) →
    MayBe (truths_of p ranges) u → is_sql_true u ≡ false → SomeRow ranges (holds p) false
not_held All ranges u o once m e = held_as All ranges u o once m e
not_held (Single atom) ranges u o once m e = held_as (Single atom) ranges u o (by_kind (is_range atom) refl once) m e
  where
    by_kind : (b : Bool) → is_range atom ≡ b → IsTrue (no_repeats (columns_of_pred (cond b All (Single atom)))) → IsTrue (no_repeats (columns_of_atom atom))
    by_kind true t once = range_once atom t
    by_kind false t once = once
not_held (Both a b) ranges u o once m e =
    let parts = no_repeats_parts (columns_of_pred (beside_ranges a)) (columns_of_pred (beside_ranges b)) once in
    let sides = and_reached (truths_of a ranges) (truths_of b ranges) u (some_truth a ranges o) (some_truth b ranges o) m in
    elim (one_not_true sides.0 sides.1 (ap is_sql_true sides.4 ∙ e)) [
      | inl f ↦ (let found = not_held a ranges sides.0 o parts.0 sides.2 f in (found.0, found.1, left_not_true (truth a found.0) (truth b found.0) found.2))
      | inr f ↦ (let found = not_held b ranges sides.1 o parts.1 sides.3 f in (found.0, found.1, right_not_true (truth a found.0) (truth b found.0) found.2))
    ]
not_held (Either a b) ranges u o once m e = held_as (Either a b) ranges u o once m e
not_held (Negation a) ranges u o once m e = held_as (Negation a) ranges u o once m e

-- ---- a row at which it holds, for a key of the groups

sql_true : (u : Option Bool) → is_sql_true u ≡ true → u ≡ Some true
sql_true None e = cc
sql_true (Some b) e = ap (λ c. Some c) e

second_false : (x y : Bool) → y ≡ false → (x && y) ≡ false
second_false true y e = e
second_false false y e = refl

-- the condition without its ranges
abbrev rest_of : Query → Query
rest_of query = record query { pred = beside_ranges query.pred }

module _ (query : Query) (key : List (Option ℤ)) (ranges : Ranges) (o : NoneEmpty ranges) (joins : JoinsRanges query.pred (groups_of query.shape)) where
  abbrev others : List ℕ
  others = columns_of_pred (beside_ranges query.pred) ++ groups_of query.shape

  -- the numbers of the ranges, where the row may have one, and beside them a row for the rest
  abbrev number_row : (ℕ → ℤ) → Row
  number_row f = λ c. cond (may_be_number (ranges c).null) (Some (f c)) None

  number_row_within : (f : ℕ → ℤ) → ((c : ℕ) → Within (ranges c).numbers (f c)) → IsRowWithin ranges (number_row f)
  number_row_within f h c = by_word (ranges c).null (ranges c).numbers (f c) (h c)

  atoms_true : (f : ℕ → ℤ) (g : Row) (atoms : List Atom) → AreRanges atoms → AllByRecursion (λ a. NoneShared (columns_of_atom a) others) atoms →
      AllByRecursion (λ a. MayBe (truths_of_atom a ranges) (Some true)) atoms → AllByRecursion (λ a. IsTrue (test_of a (f (column_in a)))) atoms →
      AllByRecursion (λ a. atom_truth a (merged others g (number_row f)) ≡ Some true) atoms
  atoms_true f g [] t apart m h = tt
  atoms_true f g (a ∷ atoms) t apart m h =
      let c = column_in a in
      let aside : NoneShared (c ∷ []) others = subst (λ cs. NoneShared cs others) (range_column a t.0) apart.0 in
      let there = cond-false (counts c others) (g c) (number_row f c) aside.0 in
      let number = number_value (ranges c).null (f c) (range_may_pass a ranges o t.0 m.0).number in
      (range_is_true a t.0 (merged others g (number_row f)) (f c) (there ∙ number) h.0, atoms_true f g atoms t.1 apart.1 m.1 h.1)

  reach_each : (atoms : List Atom) → AreRanges atoms → AllByRecursion (λ a. MayBe (truths_of_atom a ranges) (Some true)) atoms →
      AllByRecursion (Reaches (λ c x. Within (ranges c).numbers x)) atoms
  reach_each [] t m = tt
  reach_each (a ∷ atoms) t m = (let may = range_may_pass a ranges o t.0 m.0 in ((may.passing, may.within, may.passes), reach_each atoms t.1 m.1))

  row_held : MayBe (truths_of query.pred ranges) (Some true) → Allows (truth_of_group (groups_of query.shape) key ranges) true → SomeRow ranges (passes query key) true
  row_held m a =
      let may = ranges_may query.pred ranges m in
      let are = are_ranges query.pred in
      let beside = truth_among_allows (truths_of (beside_ranges query.pred) ranges) (Some true) (beside_may query.pred ranges m) in
      let found = row_reached (rest_of query) key ranges true o joins.once (allows_and _ _ true true beside a) in
      let numbers = choose (ranges_in query.pred) (λ c x. Within (ranges c).numbers x)
      (λ c x y z h k p q. (let low = p.above in let high = q.below in record { above = omega (arith, ints); below = omega (arith, ints) }))
      (λ c. ((ranges c).numbers.low, low_within (ranges c).numbers (o c))) are (reach_each (ranges_in query.pred) are may) joins.meet in
      let row = merged others found.0 (number_row numbers.0) in
      let same : passes (rest_of query) key row ≡ true =
      passes_depends (rest_of query) key row found.0 (λ c r. cond-true (counts c others) (found.0 c) (number_row numbers.0 c) r) ∙ found.2 in
      let parts = and_parts (holds (beside_ranges query.pred) row) (in_group (groups_of query.shape) key row) same in
      let is = truth_from_parts query.pred row (atoms_true numbers.0 found.0 (ranges_in query.pred) are joins.apart may numbers.2) (sql_true (truth (beside_ranges query.pred) row) parts.0) in (
        row,
        merged_chosen ranges others found.0 (number_row numbers.0) found.1 (number_row_within numbers.0 numbers.1),
        and_from (holds query.pred row) (in_group (groups_of query.shape) key row) (ap is_sql_true is) parts.1,
      )

  -- what is known of whether a row counts allows nothing that no row does
  joined_reached : (b : Bool) → Allows (truth_of_row query key ranges) b → SomeRow ranges (passes query key) b
  joined_reached b a =
      let sides = allowed_and (truth_of query.pred ranges) (truth_of_group (groups_of query.shape) key ranges) b a in
      by_value b sides.0 sides.1 sides.2 sides.3 sides.4
    where
      by_value : (b x y : Bool) → Allows (truth_of query.pred ranges) x → Allows (truth_of_group (groups_of query.shape) key ranges) y → (x && y) ≡ b →
          SomeRow ranges (passes query key) b
      by_value true x y h k e =
          let both = and_parts x y e in
          let one = truth_among_reached (truths_of query.pred ranges) true (some_truth query.pred ranges o) (subst (Allows (truth_of query.pred ranges)) both.0 h) in
          row_held (subst (MayBe (truths_of query.pred ranges)) (sql_true one.0 one.2) one.1) (subst (Allows (truth_of_group (groups_of query.shape) key ranges)) both.1 k)
      by_value false x y h k e =
          let once = no_repeats_parts (columns_of_pred (beside_ranges query.pred)) (groups_of query.shape) joins.once in
          elim (and_cases x y e) [
            | inl f ↦ (let one = truth_among_reached (truths_of query.pred ranges) false (some_truth query.pred ranges o) (subst (Allows (truth_of query.pred ranges)) f h) in
                let found = not_held query.pred ranges one.0 o once.0 one.1 one.2 in
                (found.0, found.1, ap (λ z. z && in_group (groups_of query.shape) key found.0) found.2))
            | inr f ↦ (let found = group_reached (groups_of query.shape) key ranges false o once.1 (subst (Allows (truth_of_group (groups_of query.shape) key ranges)) f k) in
                (found.0, found.1, second_false (holds query.pred found.0) (in_group (groups_of query.shape) key found.0) found.2))
          ]

pub row_attained : (query : Query) (key : List (Option ℤ)) (ranges : Ranges) (b : Bool) → NoneEmpty ranges → AttainsTruths query.pred (groups_of query.shape) →
    Allows (truth_of_row query key ranges) b → SomeRow ranges (passes query key) b
row_attained query key ranges b o (inl once) a = row_reached query key ranges b o once a
row_attained query key ranges b o (inr joins) a = joined_reached query key ranges o joins b a
