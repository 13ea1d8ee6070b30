-- Distinct names are sorted, each text is among them, and one that is already there changes nothing.
use Rattle.std.proofs.Common.{◌≡◌, ℕ, ◌+◌, ◌<◌, ℤ, pos, Bool, true, false, ◌||◌, not, IsTrue, All, List, [], ◌∷◌, fold, length, map, get_or, refl, sym, ap, ◌∙◌, arith, cond}
use Rattle.std.proofs.lemmas.Bool.{and_from}
use Rattle.std.proofs.lemmas.Cmp.{nat_list_cmp_total}
use Rattle.std.proofs.lemmas.List.Elements.{All-cons, All-from_recursion, All-head, All-map, All-tail, recursion_from_All}
use Rattle.std.proofs.lemmas.Map.Text.{is_eq-slice_cmp}
use Rattle.std.proofs.lemmas.Map.Views.{All-insert_key}
use Rattle.std.proofs.lemmas.Slice.Eq.{bytes_eq-Decides}
use Rattle.std.specs.Prelude.{int_le, int_lt}
use Rattle.std.specs.BTreeSet.{insert_key}
use Rattle.std.specs.Cmp.Lexicographic.{slice_cmp}
use Rattle.std.specs.List.{AllByRecursion, list_any, position_or_len}
use Rattle.std.specs.List.Sorted.{IsStrictlySortedBy}
use Rattle.std.specs.Ordering.{is_eq, match_ordering, nat_cmp, ordering_reverse}
use Rattle.std.specs.Str.{bytes_eq}
use Rattle.std.specs.declared.cmp.Ordering.{Ordering}
use Rattle.std.specs.declared.cmp.Ordering.TheVariants.{Less, Equal, Greater}
use Rattle.daq_table.specs.ColumnFacts.{are_ranks}
use Rattle.daq_table.specs.Dictionaries.{distinct, rank_of}
use Rattle.daq_table.specs.Extremes.{greatest, least}
use Rattle.daq_table.proofs.Extremes.{greatest_has, least_has}

or_left : (p q : Bool) → p ≡ true → (p || q) ≡ true
or_left true q e = refl
or_left false q e = absurd cc

or_right : (p q : Bool) → q ≡ true → (p || q) ≡ true
or_right true q e = refl
or_right false q e = e

or_more : (p q r : Bool) → (p || q) ≡ true → (q ≡ true → r ≡ true) → (p || r) ≡ true
or_more true q r e f = refl
or_more false q r e f = f e

-- a name stays when another comes, and the other is there then
pub stays : (names : List (List ℕ)) (name text : List ℕ) → list_any (bytes_eq name) names ≡ true → list_any (bytes_eq name) (insert_key (slice_cmp nat_cmp) names text) ≡ true
stays [] name text h = absurd cc
stays (x ∷ names) name text h =
    let more = stays names name text in
    elim (slice_cmp nat_cmp text x) as (λ o. list_any (bytes_eq name) (match_ordering o (text ∷ x ∷ names) (x ∷ names) (x ∷ insert_key (slice_cmp nat_cmp) names text)) ≡ true) [
      | Less ↦ or_right (bytes_eq name text) (bytes_eq name x || list_any (bytes_eq name) names) h
      | Equal ↦ h
      | Greater ↦ or_more (bytes_eq name x) (list_any (bytes_eq name) names) (list_any (bytes_eq name) (insert_key (slice_cmp nat_cmp) names text)) h more
    ]

itself : (text : List ℕ) → bytes_eq text text ≡ true
itself text = (bytes_eq-Decides text text).1 refl

came : (names : List (List ℕ)) (x text : List ℕ) (o : Ordering) → slice_cmp nat_cmp text x ≡ o → list_any (bytes_eq text) (insert_key (slice_cmp nat_cmp) names text) ≡ true
    → list_any (bytes_eq text) (match_ordering o (text ∷ x ∷ names) (x ∷ names) (x ∷ insert_key (slice_cmp nat_cmp) names text)) ≡ true
came names x text Less e h = or_left (bytes_eq text text) (bytes_eq text x || list_any (bytes_eq text) names) (itself text)
came names x text Equal e h = or_left (bytes_eq text x) (list_any (bytes_eq text) names) (sym (is_eq-slice_cmp text x) ∙ ap is_eq e)
came names x text Greater e h = or_right (bytes_eq text x) (list_any (bytes_eq text) (insert_key (slice_cmp nat_cmp) names text)) h

pub comes : (names : List (List ℕ)) (text : List ℕ) → list_any (bytes_eq text) (insert_key (slice_cmp nat_cmp) names text) ≡ true
comes [] text = or_left (bytes_eq text text) false (itself text)
comes (x ∷ names) text = came names x text (slice_cmp nat_cmp text x) refl (comes names text)

stays_all : (texts names : List (List ℕ)) (name : List ℕ) → list_any (bytes_eq name) names ≡ true → list_any (bytes_eq name) (fold (insert_key (slice_cmp nat_cmp)) names texts) ≡ true
stays_all [] names name h = h
stays_all (text ∷ texts) names name h = stays_all texts (insert_key (slice_cmp nat_cmp) names text) name (stays names name text h)

pub all_come : (texts names : List (List ℕ)) → All (λ text. IsTrue (list_any (bytes_eq text) (fold (insert_key (slice_cmp nat_cmp)) names texts))) texts
all_come [] names = λ k d lt. absurd (omega (arith, lt))
all_come (text ∷ texts) names =
    let after = insert_key (slice_cmp nat_cmp) names text in
    All-cons (λ (t : List ℕ). IsTrue (list_any (bytes_eq t) (fold (insert_key (slice_cmp nat_cmp)) after texts))) text texts (stays_all texts after text (comes names text)) (all_come texts after)

-- names that are sorted stay so when a text comes
sorted_step : (names : List (List ℕ)) (x text : List ℕ) (o : Ordering) → slice_cmp nat_cmp text x ≡ o → AllByRecursion (λ y. slice_cmp nat_cmp x y ≡ Less) names → IsStrictlySortedBy (slice_cmp nat_cmp) names
    → IsStrictlySortedBy (slice_cmp nat_cmp) (insert_key (slice_cmp nat_cmp) names text)
    → IsStrictlySortedBy (slice_cmp nat_cmp) (match_ordering o (text ∷ x ∷ names) (x ∷ names) (x ∷ insert_key (slice_cmp nat_cmp) names text))
unfolding IsStrictlySortedBy
sorted_step names x text Less e above rest more =
    let all = All-from_recursion (λ y. slice_cmp nat_cmp x y ≡ Less) names above in
    ((e, recursion_from_All (λ y. slice_cmp nat_cmp text y ≡ Less) names (λ k d lt. nat_list_cmp_total.trans text x (get_or names k d) e (all k d lt))), (above, rest))
sorted_step names x text Equal e above rest more = (above, rest)
sorted_step names x text Greater e above rest more =
    let all = All-from_recursion (λ y. slice_cmp nat_cmp x y ≡ Less) names above in
    let below : slice_cmp nat_cmp x text ≡ Less = nat_list_cmp_total.antisymm x text ∙ ap ordering_reverse e in
    (recursion_from_All (λ y. slice_cmp nat_cmp x y ≡ Less) (insert_key (slice_cmp nat_cmp) names text) (All-insert_key (slice_cmp nat_cmp) text (λ y. slice_cmp nat_cmp x y ≡ Less) names all below), more)

pub sorted_with : (names : List (List ℕ)) (text : List ℕ) → IsStrictlySortedBy (slice_cmp nat_cmp) names → IsStrictlySortedBy (slice_cmp nat_cmp) (insert_key (slice_cmp nat_cmp) names text)
unfolding IsStrictlySortedBy
sorted_with [] text h = (tt, tt)
sorted_with (x ∷ names) text h = sorted_step names x text (slice_cmp nat_cmp text x) refl h.0 h.1 (sorted_with names text h.1)

pub sorted_after : (texts names : List (List ℕ)) → IsStrictlySortedBy (slice_cmp nat_cmp) names → IsStrictlySortedBy (slice_cmp nat_cmp) (fold (insert_key (slice_cmp nat_cmp)) names texts)
sorted_after [] names h = h
sorted_after (text ∷ texts) names h = sorted_after texts (insert_key (slice_cmp nat_cmp) names text) (sorted_with names text h)

pub distinct_sorted : (texts : List (List ℕ)) → IsStrictlySortedBy (slice_cmp nat_cmp) (distinct texts)
unfolding IsStrictlySortedBy
distinct_sorted texts = sorted_after texts [] tt

differs : (text x : List ℕ) (o : Ordering) → slice_cmp nat_cmp text x ≡ o → is_eq o ≡ false → bytes_eq text x ≡ false
differs text x o e d = sym (is_eq-slice_cmp text x) ∙ ap is_eq e ∙ d

later : (p q : Bool) → (p || q) ≡ true → p ≡ false → q ≡ true
later true q h e = absurd cc
later false q h e = h

-- no text is among names that it stands before
apart : (names : List (List ℕ)) (text : List ℕ) → AllByRecursion (λ y. slice_cmp nat_cmp text y ≡ Less) names → list_any (bytes_eq text) names ≡ true → ⊥
apart [] text above h = absurd cc
apart (y ∷ names) text above h = apart names text above.1 (later (bytes_eq text y) (list_any (bytes_eq text) names) h (differs text y Less above.0 refl))

known_step : (names : List (List ℕ)) (x text : List ℕ) (o : Ordering) → slice_cmp nat_cmp text x ≡ o → AllByRecursion (λ y. slice_cmp nat_cmp x y ≡ Less) names → (bytes_eq text x || list_any (bytes_eq text) names) ≡ true
    → (list_any (bytes_eq text) names ≡ true → insert_key (slice_cmp nat_cmp) names text ≡ names)
    → match_ordering o (text ∷ x ∷ names) (x ∷ names) (x ∷ insert_key (slice_cmp nat_cmp) names text) ≡ x ∷ names
known_step names x text Less e above h more =
    let all = All-from_recursion (λ y. slice_cmp nat_cmp x y ≡ Less) names above in
    let low = recursion_from_All (λ y. slice_cmp nat_cmp text y ≡ Less) names (λ k d lt. nat_list_cmp_total.trans text x (get_or names k d) e (all k d lt)) in
    absurd (apart names text low (later (bytes_eq text x) (list_any (bytes_eq text) names) h (differs text x Less e refl)))
known_step names x text Equal e above h more = refl
known_step names x text Greater e above h more =
    ap (λ (ns : List (List ℕ)). x ∷ ns) (more (later (bytes_eq text x) (list_any (bytes_eq text) names) h (differs text x Greater e refl)))

pub known_stays : (names : List (List ℕ)) (text : List ℕ) → IsStrictlySortedBy (slice_cmp nat_cmp) names → list_any (bytes_eq text) names ≡ true → insert_key (slice_cmp nat_cmp) names text ≡ names
unfolding IsStrictlySortedBy
known_stays [] text sorted h = absurd cc
known_stays (x ∷ names) text sorted h = known_step names x text (slice_cmp nat_cmp text x) refl sorted.0 h (known_stays names text sorted.1)

placed_here : (p : Bool) (n m : ℕ) → (p ≡ false → n < m) → cond (not p) (1 + n) 0 < 1 + m
placed_here true n m h = omega arith
placed_here false n m h = let lt = h refl in omega (arith, lt)

pub placed : (p : List ℕ → Bool) (xs : List (List ℕ)) → IsTrue (list_any p xs) → position_or_len p xs < length xs
placed p [] h = absurd cc
placed p (x ∷ xs) h = let at = placed_here (p x) (position_or_len p xs) (length xs) (λ e. placed p xs (later (p x) (list_any p xs) h e)) in omega (arith, at)

natural : (n : ℕ) → IsTrue (int_le (pos 0) (pos n))
natural n = grind arith

below : (m n : ℕ) → m < n → IsTrue (int_lt (pos m) (pos n))
below m n lt = grind arith

pub ranks_fit : (texts names : List (List ℕ)) → All (λ text. IsTrue (list_any (bytes_eq text) names)) texts
    → IsTrue (are_ranks (least (map (λ text. pos (rank_of names text)) texts)) (greatest (map (λ text. pos (rank_of names text)) texts)) names)
ranks_fit [] [] known = refl
ranks_fit (text ∷ texts) [] known = absurd (let bad : false ≡ true = known 0 text (omega arith) in cc)
ranks_fit texts (name ∷ names) known =
    let all = name ∷ names in
    let rank = λ (text : List ℕ). pos (rank_of all text) in
    let zs = map rank texts in
    let low : All (λ (z : ℤ). IsTrue (int_le (pos 0) z)) zs = All-map (λ (z : ℤ). IsTrue (int_le (pos 0) z)) rank texts (λ k d lt. natural (rank_of all (get_or texts k d))) in
    let high : All (λ (z : ℤ). IsTrue (int_lt z (pos (length all)))) zs = All-map (λ (z : ℤ). IsTrue (int_lt z (pos (length all)))) rank texts (λ k d lt. below (rank_of all (get_or texts k d)) (length all) (placed (bytes_eq (get_or texts k d)) all (known k d lt))) in
    and_from (int_le (pos 0) (least zs)) (int_lt (greatest zs) (pos (length all)))
    (least_has (λ (z : ℤ). IsTrue (int_le (pos 0) z)) zs refl low)
    (greatest_has (λ (z : ℤ). IsTrue (int_lt z (pos (length all)))) zs (below 0 (length all) (omega arith)) high)

pub ranks_are : (texts : List (List ℕ)) → IsTrue (are_ranks (least (map (λ text. pos (rank_of (distinct texts) text)) texts)) (greatest (map (λ text. pos (rank_of (distinct texts) text)) texts)) (distinct texts))
ranks_are texts = ranks_fit texts (distinct texts) (all_come texts [])

-- there are names where there are texts
pub some_names : (texts : List (List ℕ)) → distinct texts ≡ [] → length texts ≡ 0
some_names [] e = refl
some_names (text ∷ texts) e = absurd (let known : list_any (bytes_eq text) (distinct (text ∷ texts)) ≡ true = all_come (text ∷ texts) [] 0 text (omega arith) in let none : list_any (bytes_eq text) (distinct (text ∷ texts)) ≡ false = ap (list_any (bytes_eq text)) e in cc)

-- what all texts have, and all names before them, the names with them have
pub distinct_has : (P : List ℕ → Type 0) (texts names : List (List ℕ)) → All P names → All P texts → All P (fold (insert_key (slice_cmp nat_cmp)) names texts)
distinct_has P [] names known all = known
distinct_has P (text ∷ texts) names known all =
    distinct_has P texts (insert_key (slice_cmp nat_cmp) names text) (All-insert_key (slice_cmp nat_cmp) text P names known (All-head P text texts all)) (All-tail P text texts all)

-- keys as the texts that they are seen as
pub insert_viewed : {K : Type 0} (view : K → List ℕ) (keys : List K) (key : K)
    → map view (insert_key (λ x y. slice_cmp nat_cmp (view x) (view y)) keys key) ≡ insert_key (slice_cmp nat_cmp) (map view keys) (view key)
insert_viewed view [] key = refl
insert_viewed view (x ∷ keys) key =
    let more = insert_viewed view keys key in
    elim (slice_cmp nat_cmp (view key) (view x)) as (λ o. map view (match_ordering o (key ∷ x ∷ keys) (x ∷ keys) (x ∷ insert_key (λ x y. slice_cmp nat_cmp (view x) (view y)) keys key)) ≡ match_ordering o (view key ∷ view x ∷ map view keys) (view x ∷ map view keys) (view x ∷ insert_key (slice_cmp nat_cmp) (map view keys) (view key)))
    [ Less ↦ refl | Equal ↦ refl | Greater ↦ ap (λ ks. view x ∷ ks) more ]
