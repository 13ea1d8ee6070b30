-- Masks of truths.
use Rattle.std.proofs.Common.{◌≡◌, ℕ, suc, cond, ◌+◌, Bool, true, false, List, [], ◌∷◌, length, map, count_by, refl, sym, ap, ◌∙◌, arith, IsTrue}
use Rattle.std.specs.Simd.Lanes.{zip2}
use Rattle.std.proofs.lemmas.Bool.{false≢true}
use Rattle.std.proofs.lemmas.Simd.{length-zip2}
use Rattle.std.proofs.lemmas.List.FromFn.{length-map-range_with_len}
use Rattle.std.proofs.lemmas.List.Sums.{sum_by-cons}
use Rattle.query_model.specs.declared.bounds.Truth.{Truth}
use Rattle.query_model.specs.declared.bounds.Truth.TheVariants.{False, Unknown, True}
use Rattle.query_model.specs.Truths.{truth_from}
use Rattle.query_model.specs.Queries.{Condition}
use Rattle.known_column.specs.KnownTables.{KnownTable}
use Rattle.kleene_filter.specs.Filters.{is_certain, is_possible, is_unknown, truth_at, AreNested, Judgement, StoodBefore}

-- a truth is told by its two bits
told : (t : Truth) → truth_from (is_certain t) (is_possible t) ≡ t
told False = refl
told Unknown = refl
told True = refl

-- the masks of truths tell them
pub masks_tell : (ts : List Truth) → zip2 truth_from (map is_certain ts) (map is_possible ts) ≡ ts
masks_tell [] = refl
masks_tell (t ∷ ts) = ap (λ u. u ∷ zip2 truth_from (map is_certain ts) (map is_possible ts)) (told t) ∙ ap (λ us. t ∷ us) (masks_tell ts)

possible : (t : Truth) → IsTrue (is_certain t) → IsTrue (is_possible t)
possible False h = h
possible Unknown h = refl
possible True h = h

pub masks_nest : (ts : List Truth) → AreNested (map is_certain ts) (map is_possible ts)
masks_nest [] = tt
masks_nest (t ∷ ts) = (possible t, masks_nest ts)

certain_bit : (m n : Bool) → is_certain (truth_from m n) ≡ m
certain_bit true n = refl
certain_bit false true = refl
certain_bit false false = refl

possible_bit : (m n : Bool) → (IsTrue m → IsTrue n) → is_possible (truth_from m n) ≡ n
possible_bit true n h = sym (h refl)
possible_bit false true h = refl
possible_bit false false h = refl

unknown_bit : (m n : Bool) → (IsTrue m → IsTrue n) → cond n 1 0 ≡ cond m 1 0 + cond (is_unknown (truth_from m n)) 1 0
unknown_bit true true h = refl
unknown_bit true false h = absurd (false≢true (h refl))
unknown_bit false true h = refl
unknown_bit false false h = refl

-- the masks are read back from the truths
pub certain_mask : (ms ns : List Bool) → AreNested ms ns → ms ≡ map is_certain (zip2 truth_from ms ns)
certain_mask [] [] h = refl
certain_mask [] (n ∷ ns) h = absurd h
certain_mask (m ∷ ms) [] h = absurd h
certain_mask (m ∷ ms) (n ∷ ns) h = ap (λ b. b ∷ ms) (sym (certain_bit m n)) ∙ ap (λ bs. is_certain (truth_from m n) ∷ bs) (certain_mask ms ns h.1)

pub possible_mask : (ms ns : List Bool) → AreNested ms ns → ns ≡ map is_possible (zip2 truth_from ms ns)
possible_mask [] [] h = refl
possible_mask [] (n ∷ ns) h = absurd h
possible_mask (m ∷ ms) [] h = absurd h
possible_mask (m ∷ ms) (n ∷ ns) h = ap (λ b. b ∷ ns) (sym (possible_bit m n h.0)) ∙ ap (λ bs. is_possible (truth_from m n) ∷ bs) (possible_mask ms ns h.1)

-- the rows of the wider mask are those that may pass
pub possible_count : (ms ns : List Bool) → AreNested ms ns → count_by (λ b. b) ns ≡ count_by is_possible (zip2 truth_from ms ns)
possible_count [] [] h = refl
possible_count [] (n ∷ ns) h = absurd h
possible_count (m ∷ ms) [] h = absurd h
possible_count (m ∷ ms) (n ∷ ns) h =
    sum_by-cons (λ b. cond b 1 0) n ns ∙ ap (λ b. cond b 1 0 + count_by (λ b. b) ns) (sym (possible_bit m n h.0)) ∙ ap (λ k. cond (is_possible (truth_from m n)) 1 0 + k) (possible_count ms ns h.1)
    ∙ sym (sum_by-cons (λ t. cond (is_possible t) 1 0) (truth_from m n) (zip2 truth_from ms ns))

pub unknown_count : (ms ns : List Bool) → AreNested ms ns → count_by (λ b. b) ns ≡ count_by (λ b. b) ms + count_by is_unknown (zip2 truth_from ms ns)
unknown_count [] [] h = refl
unknown_count [] (n ∷ ns) h = absurd h
unknown_count (m ∷ ms) [] h = absurd h
unknown_count (m ∷ ms) (n ∷ ns) h =
    let unknowns = zip2 truth_from ms ns in
    sum_by-cons (λ b. cond b 1 0) n ns ∙ regroup _ _ _ _ _ _ (unknown_bit m n h.0) (unknown_count ms ns h.1)
    ∙ sym (ap (λ s. s + count_by is_unknown (truth_from m n ∷ unknowns)) (sum_by-cons (λ b. cond b 1 0) m ms) ∙ ap (λ s. (cond m 1 0 + count_by (λ b. b) ms) + s) (sum_by-cons (λ t. cond (is_unknown t) 1 0) (truth_from m n) unknowns))
  where
    regroup : (a b c d e f : ℕ) → a ≡ b + c → d ≡ e + f → a + d ≡ (b + e) + (c + f)
    regroup a b c d e f h k = omega arith

-- both masks have as many rows
pub nested_rows : (ms ns : List Bool) → AreNested ms ns → length ns ≡ length ms
nested_rows [] [] h = refl
nested_rows [] (n ∷ ns) h = absurd h
nested_rows (m ∷ ms) [] h = absurd h
nested_rows (m ∷ ms) (n ∷ ns) h = ap suc (nested_rows ms ns h.1)

pub rows_of_truths : (ms ns : List Bool) → AreNested ms ns → length (zip2 truth_from ms ns) ≡ length ms
rows_of_truths ms ns h = length-zip2 truth_from ms ns (sym (nested_rows ms ns h))

-- there is a truth for each row
pub stood_rows : (filter : Judgement) (pred : Condition) (table : KnownTable) (column : ℕ) (bits : List Bool) → StoodBefore filter pred table column bits → length filter.truths ≡ table.frame.rows
stood_rows filter pred table column bits stood =
    ap length stood.stood.truths ∙ length-map-range_with_len (truth_at pred stood.before) 0 stood.before.frame.rows ∙ sym (ap (λ (t : KnownTable). t.frame.rows) stood.taken)
