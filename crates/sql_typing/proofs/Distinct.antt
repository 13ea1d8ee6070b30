-- Lists in which no number stands twice.
use Rattle.std.proofs.Common.{◌≡◌, ◌≢◌, ℕ, zero, suc, ◌<◌, ◌≤◌, ◌==◌, cond, Bool, true, false, if◌then◌else◌, List, [], ◌∷◌, ◌++◌, length, Option, Some, None, IfSome, IsTrue, inl, inr, ◌⊎◌, refl, sym, subst, arith}
use Rattle.std.proofs.lemmas.Bool.{cases_eq}
use Rattle.std.specs.List.{AllByRecursion, list_any}
use Rattle.query_model.specs.Validity.{no_repeats}
use Rattle.sql_typing.specs.Names.{first_seen, with_column, with_number}
use Rattle.sql_typing.specs.Typing.{distinct_after}
use Rattle.sql_typing.specs.declared.names.Mention.{Mention}
use Rattle.sql_typing.proofs.Alls.{all_join}
use Rattle.sql_typing.proofs.Comparisons.{number_differs, number_same, or_left, or_right, other_number}

abbrev pub AreDistinct : List ℕ → Type 0
AreDistinct [] = Unit {0}
AreDistinct (x ∷ xs) = AllByRecursion (λ y. x ≢ y) xs × AreDistinct xs

-- the number is in the list
abbrev pub IsAmong : ℕ → List ℕ → Type 0
IsAmong c [] = ⊥
IsAmong c (x ∷ xs) = (x ≡ c) ⊎ IsAmong c xs

-- ---- one number more

chosen : (P : List ℕ → Type 0) (b : Bool) (seen other : List ℕ) → (b ≡ true → P seen) → (b ≡ false → P other) → P (if b then seen else other)
chosen P true seen other h k = h refl
chosen P false seen other h k = k refl

not_among : (n : ℕ) (xs : List ℕ) → list_any (λ m. n == m) xs ≡ false → AllByRecursion (λ m. m ≢ n) xs
not_among n [] h = tt
not_among n (m ∷ xs) h = ((λ e. number_differs n m (or_left (n == m) (list_any (λ k. n == k) xs) h) (sym e)), not_among n xs (or_right (n == m) (list_any (λ k. n == k) xs) h))

is_among : (n : ℕ) (xs : List ℕ) → list_any (λ m. n == m) xs ≡ true → IsAmong n xs
is_among n [] h = absurd cc
is_among n (m ∷ xs) h = elim (cases_eq n m) [
  | inl e ↦ inl (sym e)
  | inr other ↦ let no = other_number n m other in inr (is_among n xs (rw no at h))
]

among_left : (c : ℕ) (xs ys : List ℕ) → IsAmong c xs → IsAmong c (xs ++ ys)
among_left c [] ys h = elim h [ ]
among_left c (x ∷ xs) ys (inl e) = inl e
among_left c (x ∷ xs) ys (inr h) = inr (among_left c xs ys h)

among_last : (c : ℕ) (xs : List ℕ) → IsAmong c (xs ++ c ∷ [])
among_last c [] = inl refl
among_last c (x ∷ xs) = inr (among_last c xs)

distinct_push : (xs : List ℕ) (n : ℕ) → AreDistinct xs → AllByRecursion (λ m. m ≢ n) xs → AreDistinct (xs ++ n ∷ [])
distinct_push [] n h k = (tt, tt)
distinct_push (x ∷ xs) n h k = (all_join (λ y. x ≢ y) xs (n ∷ []) h.0 (k.0, tt), distinct_push xs n h.1 k.1)

with_distinct : (seen : List ℕ) (n : ℕ) → AreDistinct seen → AreDistinct (with_number seen n)
with_distinct seen n h = chosen AreDistinct (list_any (λ m. n == m) seen) seen (seen ++ n ∷ []) (λ yes. h) (λ no. distinct_push seen n h (not_among n seen no))

with_all : (P : ℕ → Type 0) (seen : List ℕ) (n : ℕ) → AllByRecursion P seen → P n → AllByRecursion P (with_number seen n)
with_all P seen n h p = chosen (AllByRecursion P) (list_any (λ m. n == m) seen) seen (seen ++ n ∷ []) (λ yes. h) (λ no. all_join P seen (n ∷ []) h (p, tt))

with_keeps : (c : ℕ) (seen : List ℕ) (n : ℕ) → IsAmong c seen → IsAmong c (with_number seen n)
with_keeps c seen n h = chosen (IsAmong c) (list_any (λ m. n == m) seen) seen (seen ++ n ∷ []) (λ yes. h) (λ no. among_left c seen (n ∷ []) h)

with_has : (seen : List ℕ) (n : ℕ) → IsAmong n (with_number seen n)
with_has seen n = chosen (IsAmong n) (list_any (λ m. n == m) seen) seen (seen ++ n ∷ []) (λ yes. is_among n seen yes) (λ no. among_last n seen)

-- ---- each at its first place

pub after_distinct : (seen ns : List ℕ) → AreDistinct seen → AreDistinct (distinct_after seen ns)
after_distinct seen [] h = h
after_distinct seen (n ∷ ns) h = after_distinct (with_number seen n) ns (with_distinct seen n h)

pub after_all : (P : ℕ → Type 0) (seen ns : List ℕ) → AllByRecursion P seen → AllByRecursion P ns → AllByRecursion P (distinct_after seen ns)
after_all P seen [] h k = h
after_all P seen (n ∷ ns) h k = after_all P (with_number seen n) ns (with_all P seen n h k.0) k.1

column_distinct : (seen : List ℕ) (o : Option ℕ) → AreDistinct seen → AreDistinct (with_column seen o)
column_distinct seen None h = h
column_distinct seen (Some c) h = with_distinct seen c h

pub seen_distinct : (seen : List ℕ) (ms : List Mention) → AreDistinct seen → AreDistinct (first_seen seen ms)
seen_distinct seen [] h = h
seen_distinct seen (m ∷ ms) h = seen_distinct (with_column seen m.column) ms (column_distinct seen m.column h)

column_all : (P : ℕ → Type 0) (seen : List ℕ) (o : Option ℕ) → AllByRecursion P seen → IfSome o P → AllByRecursion P (with_column seen o)
column_all P seen None h k = h
column_all P seen (Some c) h k = with_all P seen c h k

pub seen_all : (P : ℕ → Type 0) (seen : List ℕ) (ms : List Mention) → AllByRecursion P seen → AllByRecursion (λ m. IfSome m.column P) ms → AllByRecursion P (first_seen seen ms)
seen_all P seen [] h k = h
seen_all P seen (m ∷ ms) h k = seen_all P (with_column seen m.column) ms (column_all P seen m.column h k.0) k.1

column_keeps : (c : ℕ) (seen : List ℕ) (o : Option ℕ) → IsAmong c seen → IsAmong c (with_column seen o)
column_keeps c seen None h = h
column_keeps c seen (Some n) h = with_keeps c seen n h

seen_keeps : (c : ℕ) (seen : List ℕ) (ms : List Mention) → IsAmong c seen → IsAmong c (first_seen seen ms)
seen_keeps c seen [] h = h
seen_keeps c seen (m ∷ ms) h = seen_keeps c (with_column seen m.column) ms (column_keeps c seen m.column h)

column_seen : (seen : List ℕ) (o : Option ℕ) (ms : List Mention) → IfSome o (λ c. IsAmong c (first_seen (with_column seen o) ms))
column_seen seen None ms = tt
column_seen seen (Some c) ms = seen_keeps c (with_number seen c) ms (with_has seen c)

-- each column that is mentioned is among those that were seen
pub all_seen : (seen : List ℕ) (ms : List Mention) → AllByRecursion (λ m. IfSome m.column (λ c. IsAmong c (first_seen seen ms))) ms
all_seen seen [] = tt
all_seen seen (m ∷ ms) = (column_seen seen m.column ms, all_seen (with_column seen m.column) ms)

-- ---- no repeats

none_among : (x : ℕ) (xs : List ℕ) → AllByRecursion (λ y. x ≢ y) xs → list_any (λ y. x == y) xs ≡ false
none_among x [] h = refl
none_among x (y ∷ xs) h = rw (other_number x y h.0) (none_among x xs h.1)

pub no_repeats_in : (xs : List ℕ) → AreDistinct xs → IsTrue (no_repeats xs)
no_repeats_in [] h = refl
no_repeats_in (x ∷ xs) h = rw (none_among x xs h.0) (no_repeats_in xs h.1)

-- ---- distinct numbers below n are at most n

without : ℕ → List ℕ → List ℕ
without n [] = []
without n (x ∷ xs) = cond (x == n) (without n xs) (x ∷ without n xs)

kept : (n : ℕ) (xs : List ℕ) → AllByRecursion (λ y. n ≢ y) xs → without n xs ≡ xs
unfolding without
kept n [] h = refl
kept n (x ∷ xs) h = rw (other_number x n (λ e. h.0 (sym e)), kept n xs h.1) refl

without_all : (P : ℕ → Type 0) (n : ℕ) (xs : List ℕ) → AllByRecursion P xs → AllByRecursion P (without n xs)
unfolding without
without_all P n [] h = tt
without_all P n (x ∷ xs) h = elim (cases_eq x n) [
  | inl e ↦ rw (number_same x n e) (without_all P n xs h.1)
  | inr other ↦ rw (other_number x n other) (h.0, without_all P n xs h.1)
]

without_distinct : (n : ℕ) (xs : List ℕ) → AreDistinct xs → AreDistinct (without n xs)
unfolding without
without_distinct n [] h = tt
without_distinct n (x ∷ xs) h = elim (cases_eq x n) [
  | inl e ↦ rw (number_same x n e) (without_distinct n xs h.1)
  | inr other ↦ rw (other_number x n other) (without_all (λ y. x ≢ y) n xs h.0, without_distinct n xs h.1)
]

smaller : (x n : ℕ) → x < suc n → x ≢ n → x < n
smaller x n h k = omega arith

without_below : (n : ℕ) (xs : List ℕ) → AllByRecursion (λ x. x < suc n) xs → AllByRecursion (λ x. x < n) (without n xs)
unfolding without
without_below n [] h = tt
without_below n (x ∷ xs) h = elim (cases_eq x n) [
  | inl e ↦ rw (number_same x n e) (without_below n xs h.1)
  | inr other ↦ rw (other_number x n other) (smaller x n h.0 other, without_below n xs h.1)
]

without_length : (n : ℕ) (xs : List ℕ) → AreDistinct xs → length xs ≤ suc (length (without n xs))
unfolding without
without_length n [] h = omega arith
without_length n (x ∷ xs) h = elim (cases_eq x n) [
  | inl e ↦
      let same : without n xs ≡ xs = kept n xs (subst (λ (k : ℕ). AllByRecursion (λ y. k ≢ y) xs) e h.0) in
      rw (number_same x n e, same) (omega arith)
  | inr other ↦ let rest = without_length n xs h.1 in rw (other_number x n other) (omega arith)
]

pub few_distinct : (n : ℕ) (xs : List ℕ) → AreDistinct xs → AllByRecursion (λ x. x < n) xs → length xs ≤ n
few_distinct zero [] h k = omega arith
few_distinct zero (x ∷ xs) h k = absurd (omega (arith, k.0))
few_distinct (suc n) xs h k =
    let rest = few_distinct n (without n xs) (without_distinct n xs h) (without_below n xs k) in
    let one = without_length n xs h in
    omega arith
