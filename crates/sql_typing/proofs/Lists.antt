-- Steps of loops over lists.
use Rattle.std.proofs.Common.{◌≡◌, ℕ, zero, suc, ◌+◌, ◌<◌, Bool, List, [], ◌∷◌, ◌++◌, append_assoc, ◌||◌, length, map, drop, get_or, Option, Some, None, slice_get, refl, sym, ap, ◌∙◌, ◌⊎◌, inl, inr, subst, arith}
use Rattle.std.specs.List.{AllByRecursion, cons_option, filter_map, list_any}
use Rattle.sql_typing.specs.Names.{with_number}
use Rattle.sql_typing.specs.Typing.{distinct_after}

-- the rest of a list begins with the element at that place
pub rest_is : {A B : Type 0} (f : A → B) (xs : List A) (k : ℕ) (x : A) → k < length xs → x ≡ get_or xs k x → drop k (map f xs) ≡ f x ∷ drop (k + 1) (map f xs)
rest_is f [] k x h e = absurd (omega arith)
rest_is f (y ∷ ys) zero x h e = ap (λ z. f z ∷ map f ys) (sym e)
rest_is f (y ∷ ys) (suc k) x h e = let s : suc k + 1 ≡ suc (k + 1) = omega arith in rw s (rest_is f ys k x (omega arith) e)

pub any_map : {A B : Type 0} (p : B → Bool) (f : A → B) (xs : List A) → list_any p (map f xs) ≡ list_any (λ x. p (f x)) xs
any_map p f [] = refl
any_map p f (x ∷ xs) = ap (λ b. p (f x) || b) (any_map p f xs)

pub get_is : {A : Type 0} (xs : List A) (k : ℕ) (x : A) → k < length xs → x ≡ get_or xs k x → slice_get xs k ≡ Some x
get_is [] k x h e = absurd (omega arith)
get_is (y ∷ ys) zero x h e = ap Some (sym e)
get_is (y ∷ ys) (suc k) x h e = get_is ys k x (omega arith) e

before_or_at : (i k : ℕ) → i < k + 1 → (i < k) ⊎ (i ≡ k)
before_or_at i k h = grind arith

-- what holds of the elements below a place, and of that there, holds below the next place
pub more_hold : {A : Type 0} (P : A → Type 0) (xs : List A) (k : ℕ) (x : A) → ((i : ℕ) (y : A) → i < k → slice_get xs i ≡ Some y → P y) → slice_get xs k ≡ Some x → P x
    → (i : ℕ) (y : A) → i < k + 1 → slice_get xs i ≡ Some y → P y
more_hold P xs k x below at h i y lt e = elim (before_or_at i k lt) [
  | inl before ↦ below i y before e
  | inr same ↦
      let found : slice_get xs k ≡ Some y = rw (sym same) e in
      let is : x ≡ y = cc in
      subst P is h
]

pub all_hold : {A : Type 0} (P : A → Type 0) (xs : List A) → ((i : ℕ) (y : A) → i < length xs → slice_get xs i ≡ Some y → P y) → AllByRecursion P xs
all_hold P [] h = tt
all_hold P (x ∷ xs) h = (h 0 x (omega arith) refl, all_hold P xs (λ i y lt e. h (suc i) y (omega arith) e))

-- one more number, which is kept unless it is there
pub next_distinct : {A : Type 0} (f : A → ℕ) (seen new : List ℕ) (vs : List A) (v : A) (rest : List A) (n : ℕ) (whole : List ℕ)
    → vs ≡ v ∷ rest → n ≡ f v → new ≡ with_number seen n → distinct_after seen (map f vs) ≡ whole → distinct_after new (map f rest) ≡ whole
next_distinct f seen new vs v rest n whole e number pushed h = rw (pushed, number) (rw e at h)

-- one more value at the end of those that are there
pub next_pushed : {A B : Type 0} (f : A → B) (out new : List B) (vs : List A) (v : A) (rest : List A) (m : B) (whole : List B)
    → vs ≡ v ∷ rest → m ≡ f v → new ≡ out ++ m ∷ [] → out ++ map f vs ≡ whole → new ++ map f rest ≡ whole
next_pushed f out new vs v rest m whole e value pushed h =
    let joined : (out ++ (f v ∷ [])) ++ map f rest ≡ out ++ (f v ∷ map f rest) = append_assoc out (f v ∷ []) (map f rest) in
    rw (pushed, value, joined) (rw e at h)

more_given : {B : Type 0} (out : List B) (given : Option B) (rest whole : List B) → out ++ cons_option given rest ≡ whole → (out ++ cons_option given []) ++ rest ≡ whole
more_given out None rest whole h = append_assoc out [] rest ∙ h
more_given out (Some x) rest whole h = append_assoc out (x ∷ []) rest ∙ h

-- one more element, which may give something
pub next_given : {A B : Type 0} (f : A → Option B) (out new : List B) (vs : List A) (v : A) (rest : List A) (given : Option B) (whole : List B)
    → vs ≡ v ∷ rest → given ≡ f v → new ≡ out ++ cons_option given [] → out ++ filter_map f vs ≡ whole → new ++ filter_map f rest ≡ whole
next_given f out new vs v rest given whole e value pushed h = rw pushed (more_given out given (filter_map f rest) whole (subst (λ o. out ++ cons_option o (filter_map f rest) ≡ whole) (sym value) (rw e at h)))
