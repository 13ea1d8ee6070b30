-- The first of some that is not so: it is found behind those that are, there is one at most, and none where all are.
use Rattle.std.proofs.Common.{◌≡◌, ℕ, zero, suc, ◌+◌, ◌<◌, List, [], ◌∷◌, ◌++◌, length, get_or, map, take, All, arith, ap, sym, subst, inl, inr, refl}
use Rattle.std.proofs.lemmas.List.{map-append, take_more}
use Rattle.std.proofs.lemmas.List.Elements.{All-head, All-push, All-tail}
use Rattle.shard_groups.specs.Firsts.{IsFirstNot, IsFirstNotIn}

module _ {X : Type 0} (P : X → Type 0) where
  -- ---- found

  pub first_behind : (xs : List X) (x : X) (ys : List X) → All P xs → ¬ P x → IsFirstNot P (xs ++ x ∷ ys) (length xs)
  first_behind [] x ys all not = not
  first_behind (y ∷ xs) x ys all not = (All-head P y xs all, first_behind xs x ys (All-tail P y xs all) not)

  -- ---- one at most

  pub first_once : (xs : List X) (a b : ℕ) → IsFirstNot P xs a → IsFirstNot P xs b → a ≡ b
  first_once [] a b h k = absurd h
  first_once (x ∷ xs) zero zero h k = refl
  first_once (x ∷ xs) zero (suc b) h k = absurd (h k.0)
  first_once (x ∷ xs) (suc a) zero h k = absurd (k h.0)
  first_once (x ∷ xs) (suc a) (suc b) h k = ap suc (first_once xs a b h.1 k.1)

  pub first_not_all : (xs : List X) (a : ℕ) → IsFirstNot P xs a → All P xs → ⊥
  first_not_all [] a h all = h
  first_not_all (x ∷ xs) zero h all = h (All-head P x xs all)
  first_not_all (x ∷ xs) (suc a) h all = first_not_all xs a h.1 (All-tail P x xs all)

module _ {X : Type 0} (P : X → Type 0) where
  -- ---- in lists

  pub first_in_once : (lists : List (List X)) (a b : ℕ) → IsFirstNotIn P lists a → IsFirstNotIn P lists b → a ≡ b
  first_in_once [] a b h k = absurd h
  first_in_once (xs ∷ lists) a b (inl h) (inl k) = first_once P xs a b h k
  first_in_once (xs ∷ lists) a b (inl h) (inr k) = absurd (first_not_all P xs a h k.0)
  first_in_once (xs ∷ lists) a b (inr h) (inl k) = absurd (first_not_all P xs b k h.0)
  first_in_once (xs ∷ lists) a b (inr h) (inr k) = first_in_once lists a b h.1 k.1

  pub first_in_not_all : (lists : List (List X)) (a : ℕ) → IsFirstNotIn P lists a → All (All P) lists → ⊥
  first_in_not_all [] a h all = h
  first_in_not_all (xs ∷ lists) a (inl h) all = first_not_all P xs a h (All-head (All P) xs lists all)
  first_in_not_all (xs ∷ lists) a (inr h) all = first_in_not_all lists a h.1 (All-tail (All P) xs lists all)

module _ {A X : Type 0} (P : X → Type 0) (f : A → List X) where
  -- what is told of some, one after another: behind those of which all is so
  pub first_in_at : (ones : List A) (i : ℕ) (one : A) (place : ℕ) → i < length ones → All (All P) (map f (take i ones)) →
      IsFirstNot P (f (get_or ones i one)) place → IsFirstNotIn P (map f ones) place
  first_in_at [] i one place below all first = absurd (omega (arith, below))
  first_in_at (o ∷ ones) zero one place below all first = inl first
  first_in_at (o ∷ ones) (suc i) one place below all first =
      let front = map f (take i ones) in
      inr (All-head (All P) (f o) front all, first_in_at ones i one place (omega (arith, below)) (All-tail (All P) (f o) front all) first)

  -- and one more
  pub all_more : (ones : List A) (i : ℕ) (one : A) → i < length ones → All (All P) (map f (take i ones)) → All P (f (get_or ones i one)) →
      All (All P) (map f (take (i + 1) ones))
  all_more ones i one below all own =
      subst (λ (front : List A). All (All P) (map f front)) (sym (take_more ones i one below))
      (subst (All (All P)) (sym (map-append f (take i ones) (get_or ones i one ∷ [])))
      (All-push (All P) (map f (take i ones)) (f (get_or ones i one)) all own))
