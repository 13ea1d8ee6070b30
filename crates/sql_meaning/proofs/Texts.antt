-- Where a text stands among the names of a dictionary, and so to each of them.
use Rattle.std.proofs.Common.{◌≡◌, ℕ, zero, suc, ◌+◌, ◌<◌, ◌≤◌, cond, pos, Bool, true, false, List, [], ◌∷◌, Some, refl, sym, ap, subst, ◌∙◌, arith, IsTrue, slice_get}
use Rattle.std.proofs.lemmas.Bool.{true≢false}
use Rattle.std.proofs.lemmas.Int.{ints}
use Rattle.std.proofs.lemmas.List.Sums.{sum_by-cons}
use Rattle.std.proofs.lemmas.Option.{same_Some, none-some}
use Rattle.std.specs.Cmp.{int_cmp_is}
use Rattle.std.specs.Cmp.Lexicographic.{slice_cmp, nat_list_cmp_total, texts_ties}
use Rattle.std.specs.List.{AllByRecursion}
use Rattle.std.specs.Str.{bytes_eq}
use Rattle.std.specs.declared.cmp.Ordering.{Ordering}
use Rattle.std.specs.declared.cmp.Ordering.TheVariants.{Less, Equal, Greater}
use Rattle.std.specs.Ordering.{MatchOrdering, int_cmp, nat_cmp, is_eq, is_lt, ordering_reverse}
use Rattle.daq_table.specs.ColumnFacts.{is_ascending}
use Rattle.sql_typing.specs.Typing.{compared, high_end, is_name, low_end, member, names_below, spot_of_text}
use Rattle.sql_typing.proofs.Comparisons.{and_left, and_right}
use Rattle.sql_meaning.proofs.Spots.{IsPlaced, KeepsNull, StandsBefore, at_null, at_placed, before_null, before_placed}

abbrev pub texts_cmp : List ℕ → List ℕ → Ordering
texts_cmp x y = slice_cmp nat_cmp x y

less_is : (o : Ordering) → is_lt o ≡ true → o ≡ Less
less_is Less h = refl
less_is Equal h = absurd cc
less_is Greater h = absurd cc

-- what comes after a text that is not below t is above t
above : (n m t : List ℕ) (o : Ordering) → texts_cmp n t ≡ o → is_lt o ≡ false → texts_cmp n m ≡ Less → texts_cmp m t ≡ Greater
above n m t Less e h lt = absurd cc
above n m t Equal e h lt = nat_list_cmp_total.antisymm m t ∙ ap ordering_reverse (sym (nat_list_cmp_total.congr n t m e) ∙ lt)
above n m t Greater e h lt =
    let under : texts_cmp t n ≡ Less = nat_list_cmp_total.antisymm t n ∙ ap ordering_reverse e in
    nat_list_cmp_total.antisymm m t ∙ ap ordering_reverse (nat_list_cmp_total.trans t n m under lt)

all_above : (n t : List ℕ) (ns : List (List ℕ)) → IsTrue (is_ascending (n ∷ ns)) → is_lt (texts_cmp n t) ≡ false → AllByRecursion (λ m. texts_cmp m t ≡ Greater) ns
all_above n t [] a h = tt
all_above n t (m ∷ ms) a h =
    let lt : texts_cmp n m ≡ Less = less_is (texts_cmp n m) (and_left (is_lt (texts_cmp n m)) (is_ascending (m ∷ ms)) a) in
    let here : texts_cmp m t ≡ Greater = above n m t (texts_cmp n t) refl h lt in
    (here, all_above m t ms (and_right (is_lt (texts_cmp n m)) (is_ascending (m ∷ ms)) a) (ap is_lt here))

rest_ascends : (n : List ℕ) (ns : List (List ℕ)) → IsTrue (is_ascending (n ∷ ns)) → IsTrue (is_ascending ns)
rest_ascends n [] a = refl
rest_ascends n (m ∷ ms) a = and_right (is_lt (texts_cmp n m)) (is_ascending (m ∷ ms)) a

one_below : (n t : List ℕ) (ns : List (List ℕ)) (o : Ordering) → texts_cmp n t ≡ o → names_below (n ∷ ns) t ≡ cond (is_lt o) 1 0 + names_below ns t
one_below n t ns o e = sum_by-cons (λ name. cond {A = ℕ} (is_lt (texts_cmp name t)) 1 0) n ns ∙ ap (λ r. cond {A = ℕ} (is_lt r) 1 0 + names_below ns t) e

none_below : (t : List ℕ) (ns : List (List ℕ)) → AllByRecursion (λ m. texts_cmp m t ≡ Greater) ns → names_below ns t ≡ 0
none_below t [] h = refl
none_below t (m ∷ ms) h = let rest = none_below t ms h.1 in let e = one_below m t ms Greater h.0 in omega (arith, rest, e)

tied : (n t : List ℕ) (o : Ordering) → texts_cmp n t ≡ o → bytes_eq n t ≡ is_eq o
tied n t o e = texts_ties n t ∙ ap is_eq e

none_named : (t : List ℕ) (ns : List (List ℕ)) → AllByRecursion (λ m. texts_cmp m t ≡ Greater) ns → is_name ns t ≡ false
none_named t [] h = refl
none_named t (m ∷ ms) h = rw (tied m t Greater h.0) (none_named t ms h.1)

at_above : (t : List ℕ) (ns : List (List ℕ)) (k : ℕ) (x : List ℕ) → AllByRecursion (λ m. texts_cmp m t ≡ Greater) ns → slice_get ns k ≡ Some x → texts_cmp x t ≡ Greater
at_above t [] k x h e = absurd (none-some x e)
at_above t (m ∷ ms) zero x h e = ap (λ y. texts_cmp y t) (sym (same_Some m x e)) ∙ h.0
at_above t (m ∷ ms) (suc k) x h e = at_above t ms k x h.1 e

-- ---- the name of rank k stands to t as k to the rank of t

abbrev pub IsRank : ℕ → ℕ → Bool → Ordering → Type 0
IsRank k p named o = MatchOrdering o (k < p) ((k ≡ p) × (named ≡ true)) ((p ≤ k) × (named ≡ true → p < k))

one_more : (k p : ℕ) (named : Bool) (o : Ordering) → IsRank k p named o → IsRank (suc k) (1 + p) named o
one_more k p named Less h = let lt : k < p = h in omega (arith, lt)
one_more k p named Equal h = let e : k ≡ p = h.0 in (omega (arith, e), h.1)
one_more k p named Greater h = let le : p ≤ k = h.0 in (omega (arith, le), λ y. (let lt : p < k = h.1 y in omega (arith, lt)))

first_rank : (n t : List ℕ) (ns : List (List ℕ)) → IsTrue (is_ascending (n ∷ ns)) → (o : Ordering) → texts_cmp n t ≡ o → IsRank zero (names_below (n ∷ ns) t) (is_name (n ∷ ns) t) o
first_rank n t ns a Less e = let p = one_below n t ns Less e in omega (arith, p)
first_rank n t ns a Equal e =
    let none = none_below t ns (all_above n t ns a (ap is_lt e)) in
    let p = one_below n t ns Equal e in
    (omega (arith, none, p), rw (tied n t Equal e) refl)
first_rank n t ns a Greater e =
    let over = all_above n t ns a (ap is_lt e) in
    let no : is_name (n ∷ ns) t ≡ false = rw (tied n t Greater e) (none_named t ns over) in
    (let none = none_below t ns over in let p = one_below n t ns Greater e in omega (arith, none, p), λ y. absurd (true≢false (sym y ∙ no)))

over_first : (n t : List ℕ) (ns : List (List ℕ)) → IsTrue (is_ascending (n ∷ ns)) → (k : ℕ) (x : List ℕ) → slice_get ns k ≡ Some x → (o : Ordering) → texts_cmp n t ≡ o → is_lt o ≡ false
    → IsRank (suc k) (names_below (n ∷ ns) t) (is_name (n ∷ ns) t) (texts_cmp x t)
over_first n t ns a k x get o e not_less =
    let over = all_above n t ns a (ap is_lt e ∙ not_less) in
    let rest = none_below t ns over in
    let all : names_below (n ∷ ns) t ≡ 0 + names_below ns t = one_below n t ns o e ∙ ap (λ b. cond {A = ℕ} b 1 0 + names_below ns t) not_less in
    let none : names_below (n ∷ ns) t ≡ 0 = omega (arith, rest, all) in
    rw (at_above t ns k x over get) (omega (arith, none), λ y. omega (arith, none))

later_rank : (n t : List ℕ) (ns : List (List ℕ)) → IsTrue (is_ascending (n ∷ ns)) → (k : ℕ) (x : List ℕ) → slice_get ns k ≡ Some x → (o : Ordering) → texts_cmp n t ≡ o
    → IsRank k (names_below ns t) (is_name ns t) (texts_cmp x t) → IsRank (suc k) (names_below (n ∷ ns) t) (is_name (n ∷ ns) t) (texts_cmp x t)
later_rank n t ns a k x get Less e h =
    let p : names_below (n ∷ ns) t ≡ 1 + names_below ns t = one_below n t ns Less e in
    let named : is_name (n ∷ ns) t ≡ is_name ns t = rw (tied n t Less e) refl in
    rw (p, named) (one_more k (names_below ns t) (is_name ns t) (texts_cmp x t) h)
later_rank n t ns a k x get Equal e h = over_first n t ns a k x get Equal e refl
later_rank n t ns a k x get Greater e h = over_first n t ns a k x get Greater e refl

pub ranked : (names : List (List ℕ)) (t : List ℕ) → IsTrue (is_ascending names) → (k : ℕ) (x : List ℕ) → slice_get names k ≡ Some x
    → IsRank k (names_below names t) (is_name names t) (texts_cmp x t)
ranked [] t a k x e = absurd (none-some x e)
ranked (n ∷ ns) t a zero x e = let same : n ≡ x = same_Some n x e in rw (sym same) (first_rank n t ns a (texts_cmp n t) refl)
ranked (n ∷ ns) t a (suc k) x e = later_rank n t ns a k x e (texts_cmp n t) refl (ranked ns t (rest_ascends n ns a) k x e)

-- ---- what is typed of a text

pub text_placed : (names : List (List ℕ)) (t : List ℕ) → IsTrue (is_ascending names) → (k : ℕ) (x : List ℕ) → slice_get names k ≡ Some x
    → IsPlaced (λ c op. compared c op (spot_of_text names t)) (low_end (spot_of_text names t)) (high_end (spot_of_text names t)) (member (spot_of_text names t)) (pos k) (slice_cmp nat_cmp x t)
text_placed names t a k x e = by (is_name names t) refl (ranked names t a k x e)
  where
    rank_is : (p : ℕ) (o : Ordering) → IsRank k p true o → int_cmp (pos k) (pos p) ≡ o
    rank_is p Less h = let lt : k < p = h in sym (int_cmp_is (pos k) (pos p) Less (omega (arith, ints, lt)))
    rank_is p Equal h = sym (int_cmp_is (pos k) (pos p) Equal (ap pos h.0))
    rank_is p Greater h = let lt : p < k = h.1 refl in sym (int_cmp_is (pos k) (pos p) Greater (omega (arith, ints, lt)))

    no_rank_is : (p : ℕ) (o : Ordering) → IsRank k p false o → StandsBefore p (pos k) o
    no_rank_is p Less h = let lt : k < p = h in (omega (arith, ints, lt), omega (arith, ints))
    no_rank_is p Equal h = absurd (true≢false (sym h.1))
    no_rank_is p Greater h = let le : p ≤ k = h.0 in (omega (arith, ints, le), omega (arith, ints))

    by : (named : Bool) → is_name names t ≡ named → IsRank k (names_below names t) (is_name names t) (slice_cmp nat_cmp x t)
        → IsPlaced (λ c op. compared c op (spot_of_text names t)) (low_end (spot_of_text names t)) (high_end (spot_of_text names t)) (member (spot_of_text names t)) (pos k) (slice_cmp nat_cmp x t)
    by true is h = rw is (at_placed (pos (names_below names t)) (pos k) (slice_cmp nat_cmp x t) (rank_is (names_below names t) (slice_cmp nat_cmp x t) (subst (λ b. IsRank k (names_below names t) b (slice_cmp nat_cmp x t)) is h)))
    by false is h = rw is (before_placed (names_below names t) (pos k) (slice_cmp nat_cmp x t) (no_rank_is (names_below names t) (slice_cmp nat_cmp x t) (subst (λ b. IsRank k (names_below names t) b (slice_cmp nat_cmp x t)) is h)))

pub text_null : (names : List (List ℕ)) (t : List ℕ) → KeepsNull (λ c op. compared c op (spot_of_text names t))
text_null names t = by (is_name names t) refl
  where
    by : (named : Bool) → is_name names t ≡ named → KeepsNull (λ c op. compared c op (spot_of_text names t))
    by true is = rw is (at_null (pos (names_below names t)))
    by false is = rw is (before_null (names_below names t))
