-- The dictionary of the texts that were drawn so far.
use Rattle.std.proofs.Common.{◌≡◌, ◌≢◌, ◌⊎◌, inl, inr, set, ℕ, ◌+◌, ◌<◌, Bool, true, false, List, [], length, map, get_or, take, sym, ap, ◌∙◌, arith}
use Rattle.std.proofs.lemmas.List.{get_or-map, get_or-set_other, length-map, length-set}
use Rattle.std.proofs.lemmas.List.Sums.{fold_more}
use Rattle.std.specs.BTreeSet.{insert_key}
use Rattle.std.specs.Cmp.Lexicographic.{slice_cmp}
use Rattle.std.specs.List.{list_any}
use Rattle.std.specs.List.Sorted.{IsStrictlySortedBy}
use Rattle.std.specs.Ordering.{nat_cmp}
use Rattle.std.specs.Str.{bytes_eq}
use Rattle.daq_table.proofs.Dictionaries.{comes, distinct_sorted, known_stays, stays}
use Rattle.daq_table.specs.Dictionaries.{distinct}
use Rattle.table_gen.specs.Draws.{text_of}

-- what is known after the first of these texts: their names, and which of the sixteen were seen
pub record HasSeen (codes : List ℕ) (end : ℕ) (names : List (List ℕ)) (seen : List Bool) : Type 0 where
  pub names_are : names ≡ distinct (take end (map text_of codes))
  pub long : length seen ≡ 16
  pub known : (code : ℕ) → code < 16 → get_or seen code false ≡ true → list_any (bytes_eq (text_of code)) names ≡ true

distinct_next : (codes : List ℕ) (i code : ℕ) → i < length codes → code ≡ get_or codes i 0
    → distinct (take (i + 1) (map text_of codes)) ≡ insert_key (slice_cmp nat_cmp) (distinct (take i (map text_of codes))) (text_of code)
distinct_next codes i code lt is =
    fold_more (insert_key (slice_cmp nat_cmp)) [] (map text_of codes) i [] (omega (arith, lt, length-map codes text_of))
    ∙ ap (insert_key (slice_cmp nat_cmp) (distinct (take i (map text_of codes)))) (get_or-map text_of codes i 0 [] lt ∙ ap text_of (sym is))

same_or_other : (i j : ℕ) → (i ≡ j) ⊎ (i ≢ j)
same_or_other i j = grind arith

pub seen_new : (codes : List ℕ) (i code : ℕ) (names after : List (List ℕ)) (seen : List Bool) → HasSeen codes i names seen → i < length codes → code ≡ get_or codes i 0 → code < 16
    → after ≡ insert_key (slice_cmp nat_cmp) names (text_of code) → HasSeen codes (i + 1) after (set seen code true)
seen_new codes i code names after seen h lt is small e = record {
  names_are = e ∙ ap (λ (ns : List (List ℕ)). insert_key (slice_cmp nat_cmp) ns (text_of code)) h.names_are ∙ sym (distinct_next codes i code lt is);
  long = length-set seen code true ∙ h.long;
  known = λ k lt' was.
      elim (same_or_other k code) [
        | inl here ↦ rw (here, e) (comes names (text_of code))
        | inr apart ↦ rw e (stays names (text_of k) (text_of code) (h.known k lt' (sym (get_or-set_other seen code k true false apart) ∙ was)))
      ];
}

pub seen_known : (codes : List ℕ) (i code : ℕ) (names : List (List ℕ)) (seen : List Bool) → HasSeen codes i names seen → i < length codes → code ≡ get_or codes i 0 → code < 16 → get_or seen code false ≡ true
    → HasSeen codes (i + 1) names seen
seen_known codes i code names seen h lt is small was =
    let sorted : IsStrictlySortedBy (slice_cmp nat_cmp) names = rw h.names_are (distinct_sorted (take i (map text_of codes))) in
    record {
      names_are = sym (known_stays names (text_of code) sorted (h.known code small was)) ∙ ap (λ (ns : List (List ℕ)). insert_key (slice_cmp nat_cmp) ns (text_of code)) h.names_are ∙ sym (distinct_next codes i code lt is);
      long = h.long;
      known = h.known;
    }
