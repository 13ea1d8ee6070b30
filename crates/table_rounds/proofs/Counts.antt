-- How often each column was read.
use Rattle.std.proofs.Common.{◌≡◌, ◌≢◌, ◌⊎◌, ℕ, zero, suc, ◌+◌, ◌<◌, ◌≤◌, ◌==◌, true, false, List, [], ◌∷◌, length, map, get_or, set, take, refl, sym, ap, ◌∙◌, subst, arith, inl, inr, count_by, sum}
use Rattle.std.proofs.lemmas.Bool.{cases_eq}
use Rattle.std.proofs.lemmas.Bool.Decides.{nat_tests}
use Rattle.std.proofs.lemmas.List.{same_lists, get_or-set_same, get_or-set_other, length-set}
use Rattle.std.proofs.lemmas.List.FromFn.{length-map-range_with_len, get_or-map-range_with_len}
use Rattle.std.proofs.lemmas.List.Sums.{count_by_more_no, count_by_more_yes, sum_by-cons}
use Rattle.std.specs.List.{range_with_len}
use Rattle.daq_table.specs.Tables.{planes}
use Rattle.daq_table.specs.declared.head.Ends.{Ends}
use Rattle.query_model.specs.declared.query.TypedQuery.{TypedQuery}
use Rattle.table_rounds.specs.Rounds.{counts_after}

-- how often a column stands among the first reads
abbrev pub count_of : List ℕ → ℕ → ℕ → ℕ
count_of reads round c = count_by (λ d. d == c) (take round reads)

pub length_of_counts : (query : TypedQuery) (reads : List ℕ) (round : ℕ) → length (counts_after query reads round) ≡ length query.columns
length_of_counts query reads round = length-map-range_with_len (count_of reads round) 0 (length query.columns)

pub count_there : (query : TypedQuery) (reads : List ℕ) (round c d : ℕ) → c < length query.columns → get_or (counts_after query reads round) c d ≡ count_of reads round c
count_there query reads round c d h = get_or-map-range_with_len (count_of reads round) 0 (length query.columns) c c d h (omega arith)

is_same : (a : ℕ) → (a == a) ≡ true
is_same a = grind (arith, nat_tests)

is_other : (a b : ℕ) → a ≢ b → (a == b) ≡ false
is_other a b n = grind (arith, nat_tests)

-- one read more counts for its column alone
pub next_counts : (query : TypedQuery) (reads : List ℕ) (round : ℕ) → round < length reads → get_or reads round 0 < length query.columns →
    counts_after query reads (round + 1) ≡ set (counts_after query reads round) (get_or reads round 0) (get_or (counts_after query reads round) (get_or reads round 0) 0 + 1)
next_counts query reads round inside in_query =
    let old = counts_after query reads round in
    let here = get_or reads round 0 in
    let long = length_of_counts query reads round in
    let long' = length_of_counts query reads (round + 1) in
    same_lists (counts_after query reads (round + 1)) (set old here (get_or old here 0 + 1)) (long' ∙ sym long ∙ sym (length-set old here (get_or old here 0 + 1))) (λ c d c_below.
    let c_in : c < length query.columns = subst (λ n. c < n) long' c_below in
    by c d c_in (cases_eq here c))
  where
    by : (c d : ℕ) → c < length query.columns → ((get_or reads round 0 ≡ c) ⊎ (get_or reads round 0 ≢ c)) →
        get_or (counts_after query reads (round + 1)) c d ≡ get_or (set (counts_after query reads round) (get_or reads round 0) (get_or (counts_after query reads round) (get_or reads round 0) 0 + 1)) c d
    by c d c_in (inl e) =
        let old = counts_after query reads round in
        let here = get_or reads round 0 in
        let long = length_of_counts query reads round in
        let one : count_of reads (round + 1) c ≡ count_of reads round c + 1 = count_by_more_yes (λ k. k == c) reads round 0 inside (subst (λ k. (here == k) ≡ true) e (is_same here)) in
        let set_here : get_or (set old here (get_or old here 0 + 1)) here d ≡ get_or old here 0 + 1 = get_or-set_same old here (get_or old here 0 + 1) d (subst (λ n. here < n) (sym long) in_query) in
        count_there query reads (round + 1) c d c_in ∙ one ∙ ap (λ n. n + 1) (sym (count_there query reads round c 0 c_in) ∙ ap (λ k. get_or old k 0) (sym e))
        ∙ sym (subst (λ k. get_or (set old here (get_or old here 0 + 1)) k d ≡ get_or old here 0 + 1) e set_here)
    by c d c_in (inr n) =
        let old = counts_after query reads round in
        let here = get_or reads round 0 in
        let none : count_of reads (round + 1) c ≡ count_of reads round c = count_by_more_no (λ k. k == c) reads round 0 inside (is_other here c n) in
        count_there query reads (round + 1) c d c_in ∙ none ∙ sym (count_there query reads round c d c_in) ∙ sym (get_or-set_other old here c (get_or old here 0 + 1) d (λ e. n (sym e)))

-- ---- sums

sum_more : (x : ℕ) (xs : List ℕ) → sum (x ∷ xs) ≡ x + sum xs
sum_more x xs = sum_by-cons (λ n. n) x xs

-- to raise one number raises the sum
pub sum_raised : (xs : List ℕ) (c : ℕ) → c < length xs → sum (set xs c (get_or xs c 0 + 1)) ≡ sum xs + 1
sum_raised [] c h = absurd (omega arith)
sum_raised (x ∷ xs) zero h = (let old = sum_more x xs in let new = sum_more (x + 1) xs in omega (arith, old, new))
sum_raised (x ∷ xs) (suc c) h =
    let rest = sum_raised xs c (omega arith) in
    let old = sum_more x xs in
    let new = sum_more x (set xs c (get_or xs c 0 + 1)) in
    omega (arith, rest, old, new)

pub sum_of_none : (a n : ℕ) (f : ℕ → ℕ) → ((c : ℕ) → f c ≡ 0) → sum (map f (range_with_len a n)) ≡ 0
sum_of_none a zero f h = refl
sum_of_none a (suc n) f h =
    let rest = sum_of_none (a + 1) n f h in
    let first = h a in
    let whole : sum (map f (range_with_len a (suc n))) ≡ f a + sum (map f (range_with_len (a + 1) n)) = sum_more (f a) (map f (range_with_len (a + 1) n)) in
    omega (arith, rest, first, whole)

-- a sum of lesser numbers is less
pub sum_below : (xs : List ℕ) (es : List Ends) (d : Ends) → length xs ≡ length es → ((c : ℕ) → c < length es → get_or xs c 0 ≤ planes (get_or es c d)) → sum xs ≤ sum (map planes es)
sum_below [] [] d same h = omega arith
sum_below [] (e ∷ es) d same h = absurd (omega arith)
sum_below (x ∷ xs) [] d same h = absurd (omega arith)
sum_below (x ∷ xs) (e ∷ es) d same h =
    let rest = sum_below xs es d (omega arith) (λ c k. h (suc c) (omega arith)) in
    let first : x ≤ planes e = h 0 (omega arith) in
    let old = sum_more x xs in
    let new = sum_more (planes e) (map planes es) in
    omega (arith, rest, first, old, new)

-- and strictly so, where one of them is
pub sum_less : (xs : List ℕ) (es : List Ends) (d : Ends) (i : ℕ) → length xs ≡ length es → ((c : ℕ) → c < length es → get_or xs c 0 ≤ planes (get_or es c d)) → i < length es →
    get_or xs i 0 < planes (get_or es i d) → sum xs < sum (map planes es)
sum_less [] [] d i same h inside less = absurd (omega (arith, inside))
sum_less [] (e ∷ es) d i same h inside less = absurd (omega arith)
sum_less (x ∷ xs) [] d i same h inside less = absurd (omega arith)
sum_less (x ∷ xs) (e ∷ es) d zero same h inside less =
    let rest = sum_below xs es d (omega arith) (λ c k. h (suc c) (omega arith)) in
    let first : x < planes e = less in
    let old = sum_more x xs in
    let new = sum_more (planes e) (map planes es) in
    omega (arith, rest, first, old, new)
sum_less (x ∷ xs) (e ∷ es) d (suc i) same h inside less =
    let rest = sum_less xs es d i (omega arith) (λ c k. h (suc c) (omega arith)) (omega (arith, inside)) less in
    let first : x ≤ planes e = h 0 (omega arith) in
    let old = sum_more x xs in
    let new = sum_more (planes e) (map planes es) in
    omega (arith, rest, first, old, new)
