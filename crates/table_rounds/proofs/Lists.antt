-- Lists: their elements by number, and what holds of each.
use Rattle.std.proofs.Common.{◌≡◌, ◌≢◌, ◌⊎◌, inl, inr, ℕ, zero, suc, ◌+◌, ◌<◌, ◌==◌, Bool, cond, Some, List, [], ◌∷◌, length, get_or, map, refl, sym, ap, ◌∙◌, subst, arith, count_by, slice_get}
use Rattle.std.proofs.lemmas.Bool.{cases_eq, eq-eqb, ne_eqb}
use Rattle.std.proofs.lemmas.List.Sums.{sum_by-cons}
use Rattle.std.proofs.lemmas.Option.{same_Some}
use Rattle.std.specs.List.{AllByRecursion}

-- ---- what holds of each

pub all_there : {X : Type 0} (P : X → Type 0) (xs : List X) (k : ℕ) (x : X) → AllByRecursion P xs → slice_get xs k ≡ Some x → P x
all_there P [] k x all e = cc
all_there P (y ∷ ys) zero x all e = subst P (same_Some y x e) all.0
all_there P (y ∷ ys) (suc k) x all e = all_there P ys k x all.1 e

pub all_of : {X : Type 0} (P : X → Type 0) (xs : List X) → ((k : ℕ) (x : X) → slice_get xs k ≡ Some x → P x) → AllByRecursion P xs
all_of P [] each = tt
all_of P (y ∷ ys) each = (each 0 y refl, all_of P ys (λ k x e. each (suc k) x e))

pub same_maps : {X Y : Type 0} (f h : X → Y) (xs : List X) → ((k : ℕ) (x : X) → slice_get xs k ≡ Some x → f x ≡ h x) → map f xs ≡ map h xs
same_maps f h [] each = refl
same_maps f h (y ∷ ys) each = rw (each 0 y refl, same_maps f h ys (λ k x e. each (suc k) x e)) refl

-- ---- counts

count_of_cons : (p : ℕ → Bool) (x : ℕ) (xs : List ℕ) → count_by p (x ∷ xs) ≡ cond (p x) 1 0 + count_by p xs
count_of_cons p x xs = sum_by-cons (λ y. cond (p y) 1 0) x xs

-- to count an image is to count its number, where no other of the list has it
pub count_of_images : (f : ℕ → ℕ) (c : ℕ) (xs : List ℕ) → ((k : ℕ) → k < length xs → f (get_or xs k 0) ≡ f c → get_or xs k 0 ≡ c) →
    count_by (λ d. d == f c) (map f xs) ≡ count_by (λ d. d == c) xs
count_of_images f c [] tells = refl
count_of_images f c (x ∷ xs) tells =
    count_of_cons (λ d. d == f c) (f x) (map f xs)
    ∙ ap (λ b. cond b 1 0 + count_by (λ d. d == f c) (map f xs)) here
    ∙ ap (λ n. cond (x == c) 1 0 + n) (count_of_images f c xs (λ k h e. tells (suc k) (omega arith) e))
    ∙ sym (count_of_cons (λ d. d == c) x xs)
  where
    here : (f x == f c) ≡ (x == c)
    here = by (cases_eq x c)
      where
        by : (x ≡ c) ⊎ (x ≢ c) → (f x == f c) ≡ (x == c)
        by (inl e) = eq-eqb (f x) (f c) (ap f e) ∙ sym (eq-eqb x c e)
        by (inr n) = ne_eqb (f x) (f c) (λ e. n (tells 0 (omega arith) e)) ∙ sym (ne_eqb x c n)
