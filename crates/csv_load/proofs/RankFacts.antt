-- A binary search among sorted names finds a text's rank.
use Rattle.std.proofs.Common.{◌≡◌, ℕ, ◌<◌, ◌≤◌, true, false, IsTrue, List, [], ◌∷◌, length, get_or, map, refl, sym, ap, inl, inr, ◌⊎◌, ◌∙◌, arith}
use Rattle.std.proofs.lemmas.Bool.{false_from_ne_true}
use Rattle.std.proofs.lemmas.Cmp.{nat_list_cmp_total}
use Rattle.std.proofs.lemmas.List.Folds.{Any-from_list_any}
use Rattle.std.proofs.lemmas.List.Sums.{position_or_len_is}
use Rattle.std.proofs.lemmas.Map.Keys.{Less-from_sorted}
use Rattle.std.proofs.lemmas.Map.Text.{is_eq-slice_cmp}
use Rattle.std.proofs.lemmas.Slice.Eq.{bytes_eq-Decides}
use Rattle.std.specs.Cmp.Lexicographic.{slice_cmp}
use Rattle.std.specs.List.{AllByRecursion, HoldsAt, list_any}
use Rattle.std.specs.List.Sorted.{IsNonDecreasingBy, IsPartitionPoint, IsStrictlySortedBy}
use Rattle.std.specs.Ordering.{is_eq, nat_cmp, ordering_index}
use Rattle.std.specs.Str.{bytes_eq}
use Rattle.std.specs.declared.cmp.Ordering.{Ordering}
use Rattle.std.specs.declared.cmp.Ordering.TheVariants.{Less, Equal, Greater}
use Rattle.daq_table.specs.Dictionaries.{rank_of}

equal_is : (a b : List ℕ) → slice_cmp nat_cmp a b ≡ Equal → a ≡ b
equal_is a b e = (bytes_eq-Decides a b).0 (sym (is_eq-slice_cmp a b) ∙ ap is_eq e)

same_is : (a b : List ℕ) → bytes_eq a b ≡ true → a ≡ b
same_is a b e = (bytes_eq-Decides a b).0 e

-- a text is not below itself
not_below : (a b : List ℕ) → slice_cmp nat_cmp a b ≡ Less → a ≡ b → ⊥
not_below a b l e =
    let no : bytes_eq a b ≡ false = sym (is_eq-slice_cmp a b) ∙ ap is_eq l in
    let yes : bytes_eq a b ≡ true = (bytes_eq-Decides a b).1 e in
    let bad : true ≡ false = sym yes ∙ no in
    absurd cc

not_above : (a b : List ℕ) → slice_cmp nat_cmp a b ≡ Greater → a ≡ b → ⊥
not_above a b g e =
    let no : bytes_eq a b ≡ false = sym (is_eq-slice_cmp a b) ∙ ap is_eq g in
    let yes : bytes_eq a b ≡ true = (bytes_eq-Decides a b).1 e in
    let bad : true ≡ false = sym yes ∙ no in
    absurd cc

pub rank_found : (names : List (List ℕ)) (text : List ℕ) (rank : ℕ) → IsStrictlySortedBy (slice_cmp nat_cmp) names → rank < length names
    → HoldsAt (λ y. slice_cmp nat_cmp y text ≡ Equal) names rank → rank ≡ rank_of names text
rank_found names text rank sorted lt found =
    let here = equal_is (get_or names rank []) text (found []) in
    sym (position_or_len_is (bytes_eq text) names rank [] (omega (arith, lt))
    (λ k below. false_from_ne_true (bytes_eq text (get_or names k [])) (λ h. not_below (get_or names k []) (get_or names rank []) (Less-from_sorted (slice_cmp nat_cmp) names k rank [] sorted below lt) (sym (same_is text (get_or names k []) h) ∙ sym here)))
    (λ h. (bytes_eq-Decides text (get_or names rank [])).1 (sym here)))

rises : (o p : Ordering) → (p ≡ Less → o ≡ Less) → (p ≡ Equal → o ≡ Less) → ordering_index o ≤ ordering_index p
rises o Less f g = rw (f refl) (omega arith)
rises o Equal f g = rw (g refl) (omega arith)
rises Less Greater f g = omega arith
rises Equal Greater f g = omega arith
rises Greater Greater f g = omega arith

before_or_at : (i j : ℕ) → i ≤ j → (i < j) ⊎ (i ≡ j)
before_or_at i j le = grind arith

before_or_from : (i j : ℕ) → (i < j) ⊎ (j ≤ i)
before_or_from i j = grind arith

names_rise : (names : List (List ℕ)) (text : List ℕ) → IsStrictlySortedBy (slice_cmp nat_cmp) names → IsNonDecreasingBy (λ y. ordering_index (slice_cmp nat_cmp y text)) names
names_rise names text sorted = λ i j d le lt.
    elim (before_or_at i j le) [
      | inl before ↦
          let below = Less-from_sorted (slice_cmp nat_cmp) names i j d sorted before lt in
          rises (slice_cmp nat_cmp (get_or names i d) text) (slice_cmp nat_cmp (get_or names j d) text)
          (λ h. nat_list_cmp_total.trans (get_or names i d) (get_or names j d) text below h)
          (λ h. ap (λ (t : List ℕ). slice_cmp nat_cmp (get_or names i d) t) (sym (equal_is (get_or names j d) text h)) ∙ below)
      | inr same ↦ rw same (omega arith)
    ]

pub rank_not_missed : (names : List (List ℕ)) (text : List ℕ) (place : ℕ) → IsStrictlySortedBy (slice_cmp nat_cmp) names → IsTrue (list_any (bytes_eq text) names)
    → (IsNonDecreasingBy (λ y. ordering_index (slice_cmp nat_cmp y text)) names → IsPartitionPoint (λ y. slice_cmp nat_cmp y text ≡ Less) (λ y. slice_cmp nat_cmp y text ≡ Greater) names place) → ⊥
rank_not_missed names text place sorted known parts =
    let point = parts (names_rise names text sorted) in
    let some = Any-from_list_any (bytes_eq text) names known in
    let same : get_or names some.0 some.1 ≡ text = some.3 ∙ sym (same_is text some.1 some.4) in
    elim (before_or_from some.0 place) [
      | inl before ↦ not_below (get_or names some.0 some.1) text (point.0 some.0 some.1 (omega arith) before) same
      | inr from ↦ not_above (get_or names some.0 some.1) text (point.1 some.0 some.1 from some.2) same
    ]

below_viewed : {K : Type 0} (view : K → List ℕ) (x : K) (keys : List K) → AllByRecursion (λ y. slice_cmp nat_cmp (view x) (view y) ≡ Less) keys → AllByRecursion (λ y. slice_cmp nat_cmp (view x) y ≡ Less) (map view keys)
below_viewed view x [] h = tt
below_viewed view x (y ∷ keys) h = (h.0, below_viewed view x keys h.1)

-- keys in order, as the texts that they are seen as
pub sorted_viewed : {K : Type 0} (view : K → List ℕ) (keys : List K) → IsStrictlySortedBy (λ x y. slice_cmp nat_cmp (view x) (view y)) keys → IsStrictlySortedBy (slice_cmp nat_cmp) (map view keys)
unfolding IsStrictlySortedBy
sorted_viewed view [] h = tt
sorted_viewed view (x ∷ keys) h = (below_viewed view x keys h.0, sorted_viewed view keys h.1)
