-- What holds at the first places of a list that is written place by place.
use Rattle.std.proofs.Common.{◌≡◌, ◌≢◌, ℕ, zero, suc, ◌+◌, ◌<◌, List, [], ◌∷◌, set, slice_get, Some, inl, inr, refl, ap, sym, subst, ◌∙◌, arith}
use Rattle.std.proofs.lemmas.Bool.{cases_eq}

set_there : {A : Type 0} (xs : List A) (i : ℕ) (x y : A) → slice_get (set xs i x) i ≡ Some y → x ≡ y
set_there [] i x y h = cc
set_there (z ∷ zs) zero x y h = cc
set_there (z ∷ zs) (suc i) x y h = set_there zs i x y h

pub set_elsewhere : {A : Type 0} (xs : List A) (i k : ℕ) (x : A) → k ≢ i → slice_get (set xs i x) k ≡ slice_get xs k
set_elsewhere [] i k x h = refl
set_elsewhere (y ∷ ys) zero zero x h = absurd (h refl)
set_elsewhere (y ∷ ys) zero (suc k) x h = refl
set_elsewhere (y ∷ ys) (suc i) zero x h = refl
set_elsewhere (y ∷ ys) (suc i) (suc k) x h = set_elsewhere ys i k x (λ e. h (ap suc e))

-- it holds at the first places
abbrev pub HoldsBelow : {A : Type 0} → (ℕ → A → Type 0) → ℕ → List A → Type 0
HoldsBelow {A} P n xs = (r : ℕ) (x : A) → r < n → slice_get xs r ≡ Some x → P r x

-- and at the next one, where that is written
pub holds_further : {A : Type 0} (P : ℕ → A → Type 0) (i : ℕ) (xs : List A) (x : A) → P i x → HoldsBelow P i xs → HoldsBelow P (i + 1) (set xs i x)
holds_further P i xs x here below r y within at =
    elim (cases_eq r i) [
      | inl same ↦ subst (λ k. P k y) (sym same) (subst (P i) (set_there xs i x y (subst (λ k. slice_get (set xs i x) k ≡ Some y) same at)) here)
      | inr other ↦ below r y (omega (arith, other)) (sym (set_elsewhere xs i r x other) ∙ at)
    ]
