-- Counts of rows that pass a test.
use Rattle.std.proofs.Common.{◌≡◌, ℕ, zero, suc, ◌+◌, ◌<◌, ◌≤◌, Bool, true, false, cond, ◌&&◌, nat_eq, nat_lt, List, [], ◌∷◌, length, filter, count_by, inl, inr, refl, sym, ap, ◌∙◌, arith}
use Rattle.std.specs.List.{range_with_len}
use Rattle.std.proofs.lemmas.Bool.{cases_lt}
use Rattle.std.proofs.lemmas.Bool.Decides.{nat_tests}
use Rattle.std.proofs.lemmas.List.Sums.{sum_by-cons}
use Rattle.topk_bounds.specs.Standings.{count_rows, is_in}

abbrev pub one_if : Bool → ℕ
one_if b = cond b 1 0

filter_cons : (f : ℕ → Bool) (a : ℕ) (l : List ℕ) → length (filter f (a ∷ l)) ≡ one_if (f a) + length (filter f l)
filter_cons f a l = by (f a) (filter f l)
  where
    by : (b : Bool) (ys : List ℕ) → length (cond b (a ∷ ys) ys) ≡ one_if b + length ys
    by true ys = omega arith
    by false ys = omega arith

count_more : (f : ℕ → Bool) (a n : ℕ) → length (filter f (range_with_len a (suc n))) ≡ length (filter f (range_with_len a n)) + one_if (f (a + n))
count_more f a zero = (let e : a + 0 ≡ a = omega arith in filter_cons f a [] ∙ ap (λ k. one_if (f k) + 0) (sym e) ∙ omega arith)
count_more f a (suc n) =
    let e : (a + 1) + n ≡ a + suc n = omega arith in
    filter_cons f a (range_with_len (a + 1) (suc n)) ∙ ap (λ m. one_if (f a) + m) (count_more f (a + 1) n ∙ ap (λ k. length (filter f (range_with_len (a + 1) n)) + one_if (f k)) e)
    ∙ omega (arith, filter_cons f a (range_with_len (a + 1) n))

-- one row more
pub count_at : (f : ℕ → Bool) (n : ℕ) → count_rows (suc n) f ≡ count_rows n f + one_if (f n)
count_at f n = (let e : 0 + n ≡ n = omega arith in count_more f 0 n ∙ ap (λ k. count_rows n f + one_if (f k)) e)

pub count_next : (f : ℕ → Bool) (n : ℕ) → count_rows (n + 1) f ≡ count_rows n f + one_if (f n)
count_next f n = (let e : n + 1 ≡ suc n = omega arith in ap (λ k. count_rows k f) e ∙ count_at f n)

-- tests that agree on the rows
pub count_same : (f g : ℕ → Bool) (n : ℕ) → ((r : ℕ) → r < n → f r ≡ g r) → count_rows n f ≡ count_rows n g
count_same f g zero same = refl
count_same f g (suc n) same = (let here = ap one_if (same n (omega arith)) in omega (arith, count_at f n, count_at g n, count_same f g n (λ r h. same r (omega arith)), here))

-- a test that passes the rows of two others, and no row of both
pub count_parts : (f g h : ℕ → Bool) (n : ℕ) → ((r : ℕ) → r < n → one_if (f r) + one_if (g r) ≡ one_if (h r)) → count_rows n f + count_rows n g ≡ count_rows n h
count_parts f g h zero parts = refl
count_parts f g h (suc n) parts = omega (arith, count_at f n, count_at g n, count_at h n, parts n (omega arith), count_parts f g h n (λ r below. parts r (omega arith)))

-- a test that passes all rows of another
pub count_up : (f g : ℕ → Bool) (n : ℕ) → ((r : ℕ) → r < n → one_if (f r) ≤ one_if (g r)) → count_rows n f ≤ count_rows n g
count_up f g zero more = omega arith
count_up f g (suc n) more = omega (arith, count_at f n, count_at g n, more n (omega arith), count_up f g n (λ r below. more r (omega arith)))

pub count_none : (f : ℕ → Bool) (n : ℕ) → ((r : ℕ) → r < n → f r ≡ false) → count_rows n f ≡ 0
count_none f zero none = refl
count_none f (suc n) none = (let here = ap one_if (none n (omega arith)) in omega (arith, count_at f n, count_none f n (λ r below. none r (omega arith)), here))

-- one row alone
pub count_only : (x n : ℕ) → x < n → count_rows n (λ r. nat_eq r x) ≡ 1
count_only x zero h = absurd (omega arith)
count_only x (suc n) h = elim (cases_lt x n) [
  | inl below ↦ (let here : one_if (nat_eq n x) ≡ 0 = grind (arith, nat_tests) in omega (arith, count_at (λ r. nat_eq r x) n, count_only x n below, here))
  | inr above ↦
      (let here : one_if (nat_eq n x) ≡ 1 = grind (arith, nat_tests) in
      let rest : count_rows n (λ r. nat_eq r x) ≡ 0 = count_none (λ r. nat_eq r x) n (λ r l. other r n x l above) in
      omega (arith, count_at (λ r. nat_eq r x) n, rest, here))
]
  where
    other : (r n x : ℕ) → r < n → n ≤ x → nat_eq r x ≡ false
    other r n x l h = grind (arith, nat_tests)

-- the rows before a row
pub count_below : (f : ℕ → Bool) (x n : ℕ) → x ≤ n → count_rows n (λ r. f r && nat_lt r x) ≡ count_rows x f
count_below f x zero h = (let e : 0 ≡ x = omega arith in ap (λ k. count_rows k f) e)
count_below f x (suc n) h = elim (cases_lt n x) [
  | inl below ↦
      (let e : suc n ≡ x = omega arith in
      count_same (λ r. f r && nat_lt r x) f (suc n) (λ r l. all (f r) r x (omega arith)) ∙ ap (λ k. count_rows k f) e)
  | inr above ↦ (let here : one_if (f n && nat_lt n x) ≡ 0 = none (f n) n x above in omega (arith, count_at (λ r. f r && nat_lt r x) n, count_below f x n (omega arith), here))
]
  where
    all : (b : Bool) (r x : ℕ) → r < x → (b && nat_lt r x) ≡ b
    all true r x l = grind (arith, nat_tests)
    all false r x l = refl

    none : (b : Bool) (r x : ℕ) → x ≤ r → one_if (b && nat_lt r x) ≡ 0
    none true r x l = grind (arith, nat_tests)
    none false r x l = refl

-- the rows of a mask
count_front : (f : ℕ → Bool) (n : ℕ) → count_rows (suc n) f ≡ one_if (f 0) + count_rows n (λ r. f (suc r))
count_front f zero = omega (arith, count_at f 0)
count_front f (suc n) = omega (arith, count_at f (suc n), count_front f n, count_at (λ r. f (suc r)) n)

pub count_mask : (rows : List Bool) → count_by (λ b. b) rows ≡ count_rows (length rows) (is_in rows)
count_mask [] = refl
count_mask (b ∷ rows) = omega (arith, sum_by-cons (λ c. cond c 1 0) b rows, count_mask rows, count_front (is_in (b ∷ rows)) (length rows))

pub count_few : (f : ℕ → Bool) (n : ℕ) → count_rows n f ≤ n
count_few f zero = omega arith
count_few f (suc n) = (let one = small (f n) in omega (arith, count_at f n, count_few f n, one))
  where
    small : (b : Bool) → one_if b ≤ 1
    small true = omega arith
    small false = omega arith
