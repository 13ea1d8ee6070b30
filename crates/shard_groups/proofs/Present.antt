-- Which keys are in the result, and in which line each is.
use Rattle.std.proofs.Common.{◌≡◌, ℕ, ◌<◌, nat_lt, Bool, true, false, List, [], ◌∷◌, refl, arith, sym, ◌∙◌, subst, inl, inr, ◌⊎◌, if◌then◌else◌, IsTrue, Some, None}
use Rattle.std.proofs.lemmas.Bool.{cases_Bool, false≢true, ltb-false, ltb-true, or_cases}
use Rattle.shard_groups.specs.declared.cells.Cell.{Cell}
use Rattle.shard_groups.specs.declared.keys.Span.{Span}
use Rattle.shard_groups.specs.Groups.{all_keys, cells_within, is_present, is_present_by, is_present_in, keys_in, only}
use Rattle.shard_groups.specs.Keys.{Key, holds, is_within}
use Rattle.shard_groups.specs.Laws.{all_rows, AreCounted, ArePresentAt, IsCounted, IsInLine, IsOneOf, LinesTellKeys, has_cell}
use Rattle.shard_groups.specs.Lines.{AreApart, AreCovered, IsCovered}
use Rattle.shard_groups.proofs.LineSets.{covered_back, covered_front}
use Rattle.shard_groups.proofs.Places.{apart_one}
use Rattle.shard_groups.proofs.Spans.{holds_more}

-- ---- one line

one_line : (line other : List Span) (lines : List (List Span)) (key : Key) → AreApart lines → IsOneOf line lines → IsOneOf other lines →
    IsTrue (holds line key) → IsTrue (holds other key) → line ≡ other
one_line line other [] key apart one two h k = absurd one
one_line line other (l ∷ lines) key apart (inl e) (inl f) h k = e ∙ sym f
one_line line other (l ∷ lines) key apart (inl e) (inr two) h k =
    absurd (apart_one l other lines key apart.0 two (subst (λ (x : List Span). IsTrue (holds x key)) e h) k)
one_line line other (l ∷ lines) key apart (inr one) (inl f) h k =
    absurd (apart_one l line lines key apart.0 one (subst (λ (x : List Span). IsTrue (holds x key)) f k) h)
one_line line other (l ∷ lines) key apart (inr one) (inr two) h k = one_line line other lines key apart.1 one two h k

covered_line : (cell : List Span) (lines : List (List Span)) (key : Key) → IsCovered cell lines → IsTrue (holds cell key) → IsInLine key lines
covered_line cell [] key covered h = absurd covered
covered_line cell (l ∷ lines) key (inl w) h = (l, inl refl, holds_more cell l key w h)
covered_line cell (l ∷ lines) key (inr covered) h =
    let found = covered_line cell lines key covered h in (found.0, inr found.1, found.2)

cell_line : (cells : List Cell) (lines : List (List Span)) (key : Key) → AreCovered (keys_in cells) lines → IsTrue (has_cell key cells) → IsInLine key lines
cell_line [] lines key covered has = absurd (false≢true has)
cell_line (cell ∷ cells) lines key covered has =
    elim (or_cases (holds cell.keys key) (has_cell key cells) has) [
      | inl h ↦ covered_line cell.keys lines key covered.0 h
      | inr h ↦ cell_line cells lines key covered.1 h
    ]

no_count : (key : Key) (cells : List Cell) (n : ℕ) → IsCounted key cells n → 0 < n → IsTrue (has_cell key cells)
no_count key cells n counted some =
    elim (cases_Bool (has_cell key cells)) [
      | inl h ↦ h
      | inr f ↦ absurd (let e = counted.missing f in omega arith)
    ]

some_count : (n : ℕ) (ns : List ℕ) → 0 < all_rows (n ∷ ns) → (0 < n) ⊎ (0 < all_rows ns)
some_count n ns h = elim (cases_Bool (nat_lt 0 n)) [ inl t ↦ inl (ltb-true 0 n t) | inr f ↦ inr (let e = ltb-false 0 n f in omega arith) ]

found : (key : Key) (shards : List (List Cell)) (counts : List ℕ) (lines : List (List Span)) → AreCovered (all_keys shards) lines →
    AreCounted key shards counts → 0 < all_rows counts → IsInLine key lines
found key [] [] lines covered counted some = absurd (omega arith)
found key [] (n ∷ counts) lines covered counted some = absurd counted
found key (cells ∷ shards) [] lines covered counted some = absurd counted
found key (cells ∷ shards) (n ∷ counts) lines covered counted some =
    elim (some_count n counts some) [
      | inl h ↦ cell_line cells lines key (covered_front (keys_in cells) (all_keys shards) lines covered) (no_count key cells n counted.0 h)
      | inr h ↦ found key shards counts lines (covered_back (keys_in cells) (all_keys shards) lines covered) counted.1 h
    ]

-- ---- present keys

kept_more : (t : Bool) (key : Key) (cell : Cell) (rest : List Cell) (n : ℕ) →
    (IsTrue cell.present → IsTrue (holds cell.keys key) → 0 < n) → ArePresentAt key rest n → ArePresentAt key (if t then cell ∷ rest else rest) n
kept_more true key cell rest n h k = (h, k)
kept_more false key cell rest n h k = k

kept : (key : Key) (line : List Span) (cells : List Cell) (n : ℕ) → ArePresentAt key cells n → ArePresentAt key (cells_within line cells) n
kept key line [] n h = tt
kept key line (cell ∷ cells) n h = kept_more (is_within cell.keys line) key cell (cells_within line cells) n h.0 (kept key line cells n h.1)

by_test : (t : Bool) (key : Key) (line : List Span) (cell : Cell) (n : ℕ) → is_within line cell.keys ≡ t → IsTrue (holds line key) →
    (IsTrue cell.present → IsTrue (holds cell.keys key) → 0 < n) → IsTrue (is_present_by (if t then Some cell else None)) → 0 < n
by_test true key line cell n e k h p = h p (holds_more line cell.keys key e k)
by_test false key line cell n e k h p = absurd (false≢true p)

by_found : (key : Key) (line : List Span) (cells : List Cell) (n : ℕ) → IsTrue (holds line key) → ArePresentAt key cells n →
    IsTrue (is_present_by (only line cells)) → 0 < n
by_found key line [] n k h p = absurd (false≢true p)
by_found key line (cell ∷ []) n k h p = by_test (is_within line cell.keys) key line cell n refl k h.0 p
by_found key line (cell ∷ next ∷ cells) n k h p = absurd (false≢true p)

present : (key : Key) (line : List Span) (shards : List (List Cell)) (counts : List ℕ) → IsTrue (holds line key) → AreCounted key shards counts →
    IsTrue (is_present line shards) → 0 < all_rows counts
present key line [] counts k counted p = absurd (false≢true p)
present key line (cells ∷ shards) [] k counted p = absurd counted
present key line (cells ∷ shards) (n ∷ counts) k counted p =
    elim (or_cases (is_present_in line cells) (is_present line shards) p) [
      | inl h ↦ (let here = by_found key line (cells_within line cells) n k (kept key line cells n counted.0.present) h in omega arith)
      | inr h ↦ (let there = present key line shards counts k counted.1 h in omega arith)
    ]

pub lines_tell_keys : LinesTellKeys
lines_tell_keys key shards counts lines are counted = record {
  found = found key shards counts lines are.covered counted;
  alone = λ line other one two h k. one_line line other lines key are.apart one two h k;
  present = λ line one h p. present key line shards counts h counted p;
}
