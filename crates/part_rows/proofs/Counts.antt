-- How many elements of a list pass a test.
use Rattle.std.proofs.Common.{◌≡◌, ℕ, ◌+◌, ◌<◌, ◌≤◌, Bool, true, false, cond, List, [], ◌∷◌, refl, sym, ap, ◌∙◌, ◌⊎◌, arith, IsTrue, IsFalse, inl, inr}
use Rattle.std.specs.List.{count_by}
use Rattle.std.proofs.lemmas.Bool.{false≢true, cases_Bool}
use Rattle.std.proofs.lemmas.List.Sums.{sum_by-cons}
use Rattle.part_rows.specs.Worlds.{IsIn}

pub step : {X : Type 0} (p : X → Bool) (x : X) (xs : List X) → count_by p (x ∷ xs) ≡ cond (p x) 1 0 + count_by p xs
step p x xs = sum_by-cons (λ y. cond (p y) 1 0) x xs

-- one for true
abbrev pub as_number : Bool → ℕ
as_number b = cond b 1 0

tick : (a b : Bool) → (IsTrue a → IsTrue b) → cond a 1 0 ≤ cond b 1 0
tick false false h = omega arith
tick false true h = omega arith
tick true true h = omega arith
tick true false h = absurd (false≢true (h refl))

pub count_more : {X : Type 0} (p q : X → Bool) (xs : List X) → ((x : X) → IsIn x xs → IsTrue (p x) → IsTrue (q x)) →
    count_by p xs ≤ count_by q xs
count_more p q [] h = omega arith
count_more p q (x ∷ xs) h =
    omega (arith, step p x xs, step q x xs, tick (p x) (q x) (h x (inl refl)), count_more p q xs (λ y i. h y (inr i)))

-- one that passes the second test does not pass the first
pub count_less : {X : Type 0} (p q : X → Bool) (xs : List X) (y : X) → ((x : X) → IsIn x xs → IsTrue (p x) → IsTrue (q x)) →
    IsIn y xs → IsFalse (p y) → IsTrue (q y) → count_by p xs < count_by q xs
count_less p q [] y h i f t = absurd i
count_less p q (x ∷ xs) y h (inl e) f t =
    omega (
      arith,
      step p x xs,
      step q x xs,
      ap as_number (ap p (sym e) ∙ f),
      ap as_number (ap q (sym e) ∙ t),
      count_more p q xs (λ z j. h z (inr j)),
    )
count_less p q (x ∷ xs) y h (inr i) f t =
    omega (arith, step p x xs, step q x xs, tick (p x) (q x) (h x (inl refl)), count_less p q xs y (λ z j. h z (inr j)) i f t)

-- an element that fails
pub record Fails {X : Type 0} (test : X → Bool) (xs : List X) : Type 0 where
  pub element : X
  pub is : IsIn element xs
  pub fails : IsFalse (test element)

pub all_or_one : {X : Type 0} (test : X → Bool) (xs : List X) → ((x : X) → IsIn x xs → IsTrue (test x)) ⊎ Fails test xs
all_or_one test [] = inl (λ x i. absurd i)
all_or_one test (x ∷ xs) =
    elim (cases_Bool (test x)) [
      | inl t ↦ elim (all_or_one test xs) [
        | inl all ↦ inl (first_too test x xs t all)
        | inr one ↦ inr (record { element = one.element; is = inr one.is; fails = one.fails })
      ]
      | inr f ↦ inr (record { element = x; is = inl refl; fails = f })
    ]
  where
    first_too : {X : Type 0} (test : X → Bool) (x : X) (xs : List X) → IsTrue (test x) → ((y : X) → IsIn y xs → IsTrue (test y)) →
        (y : X) → IsIn y (x ∷ xs) → IsTrue (test y)
    first_too test x xs t all y (inl e) = ap test e ∙ t
    first_too test x xs t all y (inr i) = all y i
