-- A name is that of one column of the query at most.
use Rattle.std.proofs.Common.{◌≡◌, ◌≢◌, ◌⊎◌, ℕ, zero, suc, ◌<◌, ◌≤◌, ◌==◌, true, false, not, List, [], ◌∷◌, length, map, get_or, sym, ◌∙◌, subst, inl, inr, arith, IsTrue}
use Rattle.std.proofs.lemmas.Bool.{and_parts, cases_Bool, cases_lt}
use Rattle.std.proofs.lemmas.Bool.Decides.{nat_tests}
use Rattle.std.proofs.lemmas.List.{length-map}
use Rattle.std.proofs.lemmas.List.Folds.{list_any_at}
use Rattle.std.proofs.lemmas.Slice.Eq.{bytes_eq-Decides}
use Rattle.std.specs.List.{AllByRecursion, list_any}
use Rattle.std.specs.Str.{bytes_eq}
use Rattle.daq_table.proofs.OneMeaning.{differ_apart, not_both}
use Rattle.daq_table.specs.declared.head.ColumnHead.{ColumnHead}
use Rattle.daq_table.specs.declared.table_head.Head.{Head}
use Rattle.query_model.specs.Validity.{IsValid, no_repeats}
use Rattle.query_model.specs.Queries.{Query}
use Rattle.plane_reads.specs.Reads.{IsNamed}

same_numbers : (a b : ℕ) → a ≡ b → (a == b) ≡ true
same_numbers a b e = grind (arith, nat_tests)

-- of numbers that differ neither
numbers_apart : (numbers : List ℕ) → IsTrue (no_repeats numbers) → (i j : ℕ) → i < j → j < length numbers → get_or numbers i 0 ≡ get_or numbers j 0 → ⊥
numbers_apart [] h i j lt within e = omega (arith, within)
numbers_apart (n ∷ numbers) h i zero lt within e = omega (arith, lt)
numbers_apart (n ∷ numbers) h zero (suc j) lt within e =
    not_both (list_any (λ m. n == m) numbers) (and_parts (not (list_any (λ m. n == m) numbers)) (no_repeats numbers) h).0
    (list_any_at (λ m. n == m) numbers j 0 (omega (arith, within)) (same_numbers n (get_or numbers j 0) e))
numbers_apart (n ∷ numbers) h (suc i) (suc j) lt within e =
    numbers_apart numbers (and_parts (not (list_any (λ m. n == m) numbers)) (no_repeats numbers) h).1 i j (omega (arith, lt)) (omega (arith, within)) e

all_at : (P : ℕ → Type 0) (xs : List ℕ) (c : ℕ) → AllByRecursion P xs → c < length xs → P (get_or xs c 0)
all_at P [] c all h = absurd (omega arith)
all_at P (x ∷ xs) zero all h = all.0
all_at P (x ∷ xs) (suc c) all h = all_at P xs c all.1 (omega arith)

abbrev names_in : Head → List (List ℕ)
names_in head = map (λ column. column.name) head.columns

module _ (query : Query) (head : Head) (valid : IsValid head query) where
  place_in : (c : ℕ) → c < length query.columns → get_or query.columns c 0 < length (names_in head)
  place_in c h = subst (λ n. get_or query.columns c 0 < n) (sym (length-map head.columns (λ (column : ColumnHead). column.name))) (all_at (λ i. i < length head.columns) query.columns c valid.in_range h)

  places_apart : (i j : ℕ) → i < length (names_in head) → j < length (names_in head) → get_or (names_in head) i [] ≡ get_or (names_in head) j [] → i ≡ j
  places_apart i j inside within e = by (cases_lt i j) (cases_lt j i)
    where
      by : ((i < j) ⊎ (j ≤ i)) → ((j < i) ⊎ (i ≤ j)) → i ≡ j
      by (inl less) other = absurd (differ_apart (names_in head) head.is_head.differ i j less within e)
      by (inr k) (inl less) = absurd (differ_apart (names_in head) head.is_head.differ j i less inside (sym e))
      by (inr k) (inr l) = omega (arith, k, l)

  pub one_column : (name : List ℕ) (c d : ℕ) → IsNamed query head c name → IsNamed query head d name → c ≡ d
  one_column name c d at_c at_d = by (cases_lt c d) (cases_lt d c)
    where
      same : get_or query.columns c 0 ≡ get_or query.columns d 0
      same = places_apart (get_or query.columns c 0) (get_or query.columns d 0) (place_in c at_c.in_query) (place_in d at_d.in_query) (at_c.same ∙ sym at_d.same)

      by : ((c < d) ⊎ (d ≤ c)) → ((d < c) ⊎ (c ≤ d)) → c ≡ d
      by (inl less) other = absurd (numbers_apart query.columns valid.distinct c d less at_d.in_query same)
      by (inr k) (inl less) = absurd (numbers_apart query.columns valid.distinct d c less at_c.in_query (sym same))
      by (inr k) (inr l) = omega (arith, k, l)

-- whether there is one can be decided
module _ (query : Query) (head : Head) (name : List ℕ) where
  abbrev name_of : ℕ → List ℕ
  name_of c = get_or (names_in head) (get_or query.columns c 0) []

  below : (n : ℕ) → n ≤ length query.columns → ((c : ℕ) × IsNamed query head c name) ⊎ ((c : ℕ) → c < n → name_of c ≢ name)
  below zero h = inr (λ c lt. absurd (omega (arith, lt)))
  below (suc n) h = by (below n (omega arith)) (cases_Bool (bytes_eq (name_of n) name))
    where
      by : ((c : ℕ) × IsNamed query head c name) ⊎ ((c : ℕ) → c < n → name_of c ≢ name) → (bytes_eq (name_of n) name ≡ true) ⊎ (bytes_eq (name_of n) name ≡ false) →
          ((c : ℕ) × IsNamed query head c name) ⊎ ((c : ℕ) → c < suc n → name_of c ≢ name)
      by (inl found) test = inl found
      by (inr none) (inl same) = inl (n, record { in_query = omega (arith, h); same = (bytes_eq-Decides (name_of n) name).0 same })
      by (inr none) (inr other) = inr (λ c lt. at c (cases_lt c n) lt)
        where
          at : (c : ℕ) → ((c < n) ⊎ (n ≤ c)) → c < suc n → name_of c ≢ name
          at c (inl less) lt = none c less
          at c (inr k) lt = λ e. (let last : n ≡ c = omega (arith, k, lt) in
              let there = (bytes_eq-Decides (name_of n) name).1 (subst (λ d. name_of d ≡ name) (sym last) e) in
              absurd cc)

  pub named_or_not : ((c : ℕ) × IsNamed query head c name) ⊎ ((c : ℕ) → ¬ IsNamed query head c name)
  named_or_not = by (below (length query.columns) (omega arith))
    where
      by : ((c : ℕ) × IsNamed query head c name) ⊎ ((c : ℕ) → c < length query.columns → name_of c ≢ name) → ((c : ℕ) × IsNamed query head c name) ⊎ ((c : ℕ) → ¬ IsNamed query head c name)
      by (inl found) = inl found
      by (inr none) = inr (λ c is. none c is.in_query is.same)
