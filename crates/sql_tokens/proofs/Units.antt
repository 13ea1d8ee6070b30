-- The units of a number, digit by digit.
use Rattle.std.proofs.Common.{◌≡◌, ℕ, ◌+◌, ◌-◌, ◌*◌, ◌^◌, ◌<◌, ◌≤◌, List, [], ◌∷◌, ◌++◌, length, get_or, drop, true, false, leb, ◌⊎◌, inl, inr, Option, Some, None, refl, sym, ap, ◌∙◌, add-one, arith, drop-cons}
use Rattle.std.proofs.lemmas.Bool.{le-leb, lt-leb}
use Rattle.std.proofs.lemmas.Bool.Decides.{leb_tells}
use Rattle.std.proofs.lemmas.List.{drop_all}
use Rattle.sql_tokens.specs.Spelling.{held, value_from}

value_from-le : (n : ℕ) (s : List ℕ) → n ≤ value_from n s
unfolding value_from
value_from-le n [] = omega arith
value_from-le n (d ∷ s) =
    let ih = value_from-le (10 * n + (d - 48)) s in
    omega (arith, ih)

pub value_from-append : (n : ℕ) (s t : List ℕ) → value_from n (s ++ t) ≡ value_from (value_from n s) t
unfolding value_from
value_from-append n [] t = refl
value_from-append n (d ∷ s) t = value_from-append (10 * n + (d - 48)) s t

pub held_small : (n : ℕ) → n ≤ 2 ^ 63 → held n ≡ Some n
held_small n h = rw (le-leb n (2 ^ 63) h) refl

pub held_large : (n : ℕ) → 2 ^ 63 < n → held n ≡ None
held_large n h = rw (lt-leb n (2 ^ 63) h) refl

pub held_behind : (n : ℕ) (s : List ℕ) → 2 ^ 63 < n → held (value_from n s) ≡ None
held_behind n s h = held_large (value_from n s) (omega (arith, value_from-le n s))

pub value_step : (n i : ℕ) (s : List ℕ) → i < length s → value_from n (drop i s) ≡ value_from (10 * n + (get_or s i 0 - 48)) (drop (i + 1) s)
unfolding value_from
value_step n i s lt = rw (add-one, drop-cons s i 0 lt) refl

pub value_end : (n i : ℕ) (s : List ℕ) → length s ≤ i → value_from n (drop i s) ≡ n
unfolding value_from
value_end n i s le = rw (drop_all i s le) refl

-- one turn of a loop over digits
module _ (n i : ℕ) (s : List ℕ) (total : Option ℕ) (lt : i < length s) (so_far : held (value_from n (drop i s)) ≡ total) where
  pub too_large : 2 ^ 63 < 10 * n + (get_or s i 0 - 48) → None ≡ total
  too_large h = sym (held_behind (10 * n + (get_or s i 0 - 48)) (drop (i + 1) s) h) ∙ ap held (sym (value_step n i s lt)) ∙ so_far

  pub one_more : held (value_from (10 * n + (get_or s i 0 - 48)) (drop (i + 1) s)) ≡ total
  one_more = ap held (sym (value_step n i s lt)) ∙ so_far

-- digits in two parts
pub all_small : (s t : List ℕ) (n : ℕ) → Some n ≡ held (value_from 0 s) → held (value_from n t) ≡ held (value_from 0 (s ++ t))
all_small s t n h = go (leb_tells (value_from 0 s) (2 ^ 63))
  where
    go : ((leb (value_from 0 s) (2 ^ 63) ≡ true) × (value_from 0 s ≤ 2 ^ 63)) ⊎ ((leb (value_from 0 s) (2 ^ 63) ≡ false) × (2 ^ 63 < value_from 0 s)) → held (value_from n t) ≡ held (value_from 0 (s ++ t))
    go (inl k) =
        let e : Some n ≡ Some (value_from 0 s) = h ∙ held_small (value_from 0 s) k.1 in
        let i : n ≡ value_from 0 s = cc in
        ap (λ m. held (value_from m t)) i ∙ ap held (sym (value_from-append 0 s t))
    go (inr k) = let e : Some n ≡ None = h ∙ held_large (value_from 0 s) k.1 in absurd cc

pub all_large : (s t : List ℕ) → None ≡ held (value_from 0 s) → None ≡ held (value_from 0 (s ++ t))
all_large s t h = go (leb_tells (value_from 0 s) (2 ^ 63))
  where
    go : ((leb (value_from 0 s) (2 ^ 63) ≡ true) × (value_from 0 s ≤ 2 ^ 63)) ⊎ ((leb (value_from 0 s) (2 ^ 63) ≡ false) × (2 ^ 63 < value_from 0 s)) → None ≡ held (value_from 0 (s ++ t))
    go (inl k) = let e : None ≡ Some (value_from 0 s) = h ∙ held_small (value_from 0 s) k.1 in absurd cc
    go (inr k) = sym (ap held (value_from-append 0 s t) ∙ held_behind (value_from 0 s) t k.1)
