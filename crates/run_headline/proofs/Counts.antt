-- How often a column of the query was read is how often its column of the table was.
use Rattle.std.proofs.Common.{◌≡◌, ◌≢◌, ◌⊎◌, ℕ, zero, suc, ◌+◌, ◌<◌, ◌≤◌, ◌==◌, true, false, cond, List, [], ◌∷◌, length, map, take, get_or, refl, sym, ap, subst, arith, inl, inr, count_by}
use Rattle.std.proofs.lemmas.Bool.{cases_eq}
use Rattle.std.proofs.lemmas.Bool.Decides.{nat_tests}
use Rattle.std.proofs.lemmas.List.Sums.{sum_by-cons}

module _ (f : ℕ → ℕ) (c : ℕ) where
  abbrev own : List ℕ → ℕ
  own xs = count_by (λ d. d == c) xs

  abbrev there : List ℕ → ℕ
  there xs = count_by (λ p. p == f c) (map f xs)

  own_cons : (x : ℕ) (xs : List ℕ) → own (x ∷ xs) ≡ cond (x == c) 1 0 + own xs
  own_cons x xs = sum_by-cons (λ d. cond (d == c) 1 0) x xs

  there_cons : (x : ℕ) (xs : List ℕ) → there (x ∷ xs) ≡ cond (f x == f c) 1 0 + there xs
  there_cons x xs = sum_by-cons (λ p. cond (p == f c) 1 0) (f x) (map f xs)

  one_more : (x : ℕ) → cond (x == c) 1 0 ≤ cond (f x == f c) 1 0
  one_more x = by (cases_eq x c)
    where
      by : (x ≡ c) ⊎ (x ≢ c) → cond (x == c) 1 0 ≤ cond (f x == f c) 1 0
      by (inl e) = subst (λ y. cond (y == c) 1 0 ≤ cond (f y == f c) 1 0) (sym e) (let same : (f c == f c) ≡ true = grind (arith, nat_tests) in let self : (c == c) ≡ true = grind (arith, nat_tests) in rw (same, self) (omega arith))
      by (inr n) = (let other : (x == c) ≡ false = grind (arith, nat_tests) in rw other (omega arith))

  pub fewer : (xs : List ℕ) → own xs ≤ there xs
  fewer [] = omega arith
  fewer (x ∷ xs) =
      let head = one_more x in
      let rest = fewer xs in
      let a = own_cons x xs in
      let b = there_cons x xs in
      omega (arith, head, rest, a, b)

  -- where f tells the numbers below a limit apart
  module _ (n : ℕ) (apart : (d : ℕ) → d < n → f d ≡ f c → d ≡ c) where
    same_one : (x : ℕ) → x < n → ◌≡◌ {A = ℕ} (cond (x == c) 1 0) (cond (f x == f c) 1 0)
    same_one x h = by (cases_eq x c)
      where
        by : (x ≡ c) ⊎ (x ≢ c) → ◌≡◌ {A = ℕ} (cond (x == c) 1 0) (cond (f x == f c) 1 0)
        by (inl e) = subst (λ y. ◌≡◌ {A = ℕ} (cond (y == c) 1 0) (cond (f y == f c) 1 0)) (sym e) (let same : (f c == f c) ≡ true = grind (arith, nat_tests) in let self : (c == c) ≡ true = grind (arith, nat_tests) in rw (same, self) refl)
        by (inr other_one) =
            let other : (x == c) ≡ false = grind (arith, nat_tests) in
            let far : f x ≢ f c = λ e. other_one (apart x h e) in
            let others : (f x == f c) ≡ false = grind (arith, nat_tests) in
            rw (other, others) refl

    pub as_many : (xs : List ℕ) → ((i : ℕ) → i < length xs → get_or xs i 0 < n) → own xs ≡ there xs
    as_many [] h = refl
    as_many (x ∷ xs) h =
        let head = same_one x (h 0 (omega arith)) in
        let rest = as_many xs (λ i lt. h (suc i) (omega arith)) in
        let a = own_cons x xs in
        let b = there_cons x xs in
        omega (arith, head, rest, a, b)

-- the first numbers of a list are below the limit where all are
pub first_below : (n k : ℕ) (xs : List ℕ) → ((i : ℕ) → i < length xs → get_or xs i 0 < n) → (i : ℕ) → i < length (take k xs) → get_or (take k xs) i 0 < n
first_below n zero xs h i lt = absurd (omega arith)
first_below n (suc k) [] h i lt = absurd (omega arith)
first_below n (suc k) (x ∷ xs) h zero lt = h 0 (omega arith)
first_below n (suc k) (x ∷ xs) h (suc i) lt = first_below n k xs (λ j below. h (suc j) (omega arith)) i (omega arith)

-- a number that is counted in a list is of one that stands there
pub counted_in : (f : ℕ → ℕ) (column n : ℕ) (xs : List ℕ) → n < count_by (λ p. p == column) (map f xs) → (i : ℕ) × (i < length xs) × (f (get_or xs i 0) ≡ column)
counted_in f column n [] h = absurd (omega (arith, h))
counted_in f column n (x ∷ xs) h = by (cases_eq (f x) column) (λ more. counted_in f column n xs more)
  where
    by : (f x ≡ column) ⊎ (f x ≢ column) → (n < count_by (λ p. p == column) (map f xs) → (i : ℕ) × (i < length xs) × (f (get_or xs i 0) ≡ column)) → (i : ℕ) × (i < length (x ∷ xs)) × (f (get_or (x ∷ xs) i 0) ≡ column)
    by (inl e) later = (0, omega arith, e)
    by (inr other) later =
        let none : (f x == column) ≡ false = grind (arith, nat_tests) in
        let sum = sum_by-cons (λ p. cond (p == column) 1 0) (f x) (map f xs) in
        let zero_here : ◌≡◌ {A = ℕ} (cond (f x == column) 1 0) 0 = ap (λ b. cond b 1 0) none in
        let rest = later (omega (arith, h, sum, zero_here)) in
        let lt = rest.1 in
        (suc rest.0, omega (arith, lt), rest.2)
