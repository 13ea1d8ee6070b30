-- Lines that are found one cell after another.
use Rattle.std.proofs.Common.{◌≡◌, ℕ, zero, suc, ◌<◌, ◌≤◌, Bool, true, false, List, [], ◌∷◌, length, refl, arith, sym, ap, ◌∙◌, subst, inl, inr, ◌⊎◌, if◌then◌else◌, IsTrue, IsFalse}
use Rattle.shard_groups.specs.declared.keys.Span.{Span}
use Rattle.shard_groups.specs.Found.{left_apart, lines_of, lines_over, taken_in, widened}
use Rattle.shard_groups.specs.Keys.{hull, is_within, meets}
use Rattle.shard_groups.specs.Lines.{AreApart, AreCovered, AreJoining, AreLines, AreUsed, IsApart, IsCovered, IsUsed}
use Rattle.shard_groups.proofs.Ascending.{ordered_lines}
use Rattle.shard_groups.proofs.LineSets.{all_more, hull_covered, joining_done, joining_none, used_within}
use Rattle.shard_groups.proofs.Spans.{left_within, meets_more, right_within, within_chain, within_itself}

-- ---- a line takes in others once

within_if : (t : Bool) (line o taken : List Span) → meets line o ≡ t → IsTrue (is_within line taken) →
    IsTrue (is_within line (if t then hull taken o else taken))
within_if true line o taken m w = within_chain line taken (hull taken o) w (left_within taken o (meets_more line taken o w m))
within_if false line o taken m w = w

within_taken : (line : List Span) (lines : List (List Span)) → IsTrue (is_within line (taken_in line lines))
within_taken line [] = within_itself line
within_taken line (o ∷ os) = within_if (meets line o) line o (taken_in line os) refl (within_taken line os)

first_if : (t : Bool) (c line o taken : List Span) (left : List (List Span)) → meets line o ≡ t → IsTrue (is_within line taken) → IsTrue (is_within c o) →
    IsCovered c ((if t then hull taken o else taken) ∷ (if t then left else o ∷ left))
first_if true c line o taken left m w v = inl (within_chain c o (hull taken o) v (right_within taken o (meets_more line taken o w m)))
first_if false c line o taken left m w v = inr (inl v)

rest_if : (t : Bool) (c line o taken : List Span) (left : List (List Span)) → meets line o ≡ t → IsTrue (is_within line taken) → IsCovered c (taken ∷ left) →
    IsCovered c ((if t then hull taken o else taken) ∷ (if t then left else o ∷ left))
rest_if true c line o taken left m w (inl v) = inl (within_chain c taken (hull taken o) v (left_within taken o (meets_more line taken o w m)))
rest_if true c line o taken left m w (inr h) = inr h
rest_if false c line o taken left m w (inl v) = inl v
rest_if false c line o taken left m w (inr h) = inr (inr h)

others_covered : (c line : List Span) (lines : List (List Span)) → IsCovered c lines → IsCovered c (taken_in line lines ∷ left_apart line lines)
others_covered c line [] h = absurd h
others_covered c line (o ∷ os) (inl v) = first_if (meets line o) c line o (taken_in line os) (left_apart line os) refl (within_taken line os) v
others_covered c line (o ∷ os) (inr h) =
    rest_if (meets line o) c line o (taken_in line os) (left_apart line os) refl (within_taken line os) (others_covered c line os h)

all_covered : (c line : List Span) (lines : List (List Span)) → IsCovered c (line ∷ lines) → IsCovered c (taken_in line lines ∷ left_apart line lines)
all_covered c line lines (inl w) = inl (within_chain c line (taken_in line lines) w (within_taken line lines))
all_covered c line lines (inr h) = others_covered c line lines h

-- what holds of all lines holds of those that are left
apart_if : (t : Bool) (x o : List Span) (left : List (List Span)) → IsFalse (meets x o) → IsApart x left → IsApart x (if t then left else o ∷ left)
apart_if true x o left f h = h
apart_if false x o left f h = (f, h)

left_is_apart : (x line : List Span) (lines : List (List Span)) → IsApart x lines → IsApart x (left_apart line lines)
left_is_apart x line [] h = tt
left_is_apart x line (o ∷ os) h = apart_if (meets line o) x o (left_apart line os) h.0 (left_is_apart x line os h.1)

all_apart_if : (t : Bool) (o : List Span) (left : List (List Span)) → IsApart o left → AreApart left → AreApart (if t then left else o ∷ left)
all_apart_if true o left h k = k
all_apart_if false o left h k = (h, k)

left_are_apart : (line : List Span) (lines : List (List Span)) → AreApart lines → AreApart (left_apart line lines)
left_are_apart line [] h = tt
left_are_apart line (o ∷ os) h =
    all_apart_if (meets line o) o (left_apart line os) (left_is_apart o line os h.0) (left_are_apart line os h.1)

used_if : (t : Bool) (o : List Span) (left cells : List (List Span)) → IsUsed o cells → AreUsed left cells → AreUsed (if t then left else o ∷ left) cells
used_if true o left cells h k = k
used_if false o left cells h k = (h, k)

left_used : (line : List Span) (lines cells : List (List Span)) → AreUsed lines cells → AreUsed (left_apart line lines) cells
left_used line [] cells h = tt
left_used line (o ∷ os) cells h = used_if (meets line o) o (left_apart line os) cells h.0 (left_used line os cells h.1)

narrow_if : (t : Bool) (o : List Span) (left others : List (List Span)) → IsCovered o others → AreCovered left others →
    AreCovered (if t then left else o ∷ left) others
narrow_if true o left others h k = k
narrow_if false o left others h k = (h, k)

left_narrow : (line : List Span) (lines others : List (List Span)) → AreCovered lines others → AreCovered (left_apart line lines) others
left_narrow line [] others h = tt
left_narrow line (o ∷ os) others h = narrow_if (meets line o) o (left_apart line os) others h.0 (left_narrow line os others h.1)

taken_if : (t : Bool) (line o taken : List Span) (others : List (List Span)) → meets line o ≡ t → IsTrue (is_within line taken) → AreApart others →
    IsCovered o others → IsCovered taken others → IsCovered (if t then hull taken o else taken) others
taken_if true line o taken others m w apart h k = hull_covered taken o others (meets_more line taken o w m) apart k h
taken_if false line o taken others m w apart h k = k

taken_narrow : (line : List Span) (lines others : List (List Span)) → AreApart others → IsCovered line others → AreCovered lines others →
    IsCovered (taken_in line lines) others
taken_narrow line [] others apart h k = h
taken_narrow line (o ∷ os) others apart h k =
    taken_if (meets line o) line o (taken_in line os) others refl (within_taken line os) apart k.0 (taken_narrow line os others apart h k.1)

joining_taken : (cells : List (List Span)) (line : List Span) (lines : List (List Span)) → AreJoining cells line lines →
    AreJoining cells (taken_in line lines) (left_apart line lines)
joining_taken cells line lines j = record {
  covered = all_more cells (line ∷ lines) (taken_in line lines ∷ left_apart line lines) (λ c h. all_covered c line lines h) j.covered;
  used = (used_within line (taken_in line lines) cells (within_taken line lines) j.used.0, left_used line lines cells j.used.1);
  apart = left_are_apart line lines j.apart;
  narrowest = λ others apart h.
      let all = j.narrowest others apart h in
      (taken_narrow line lines others apart all.0 all.1, left_narrow line lines others all.1);
}

-- ---- as often as there are lines

few_if : (t : Bool) (o : List Span) (left os : List (List Span)) → length left ≤ length os → length (if t then left else o ∷ left) ≤ suc (length os)
few_if true o left os h = omega (arith, h)
few_if false o left os h = omega (arith, h)

left_few : (line : List Span) (lines : List (List Span)) → length (left_apart line lines) ≤ length lines
left_few line [] = omega arith
left_few line (o ∷ os) = few_if (meets line o) o (left_apart line os) os (left_few line os)

fewer_if : (t : Bool) (line o : List Span) (os : List (List Span)) → meets line o ≡ t →
    (IsApart line os) ⊎ (length (left_apart line os) < length os) →
    ((meets line o ≡ false) × IsApart line os) ⊎ (length (if t then left_apart line os else o ∷ left_apart line os) < suc (length os))
fewer_if true line o os m h = inr (let few = left_few line os in omega (arith, few))
fewer_if false line o os m (inl apart) = inl (m, apart)
fewer_if false line o os m (inr less) = inr (omega (arith, less))

apart_or_fewer : (line : List Span) (lines : List (List Span)) → (IsApart line lines) ⊎ (length (left_apart line lines) < length lines)
apart_or_fewer line [] = inl tt
apart_or_fewer line (o ∷ os) = fewer_if (meets line o) line o os refl (apart_or_fewer line os)

taken_rests : (line : List Span) (lines : List (List Span)) → IsApart line lines → taken_in line lines ≡ line
taken_rests line [] h = refl
taken_rests line (o ∷ os) h = ap (λ (t : Bool). if t then hull (taken_in line os) o else taken_in line os) h.0 ∙ taken_rests line os h.1

left_rests : (line : List Span) (lines : List (List Span)) → IsApart line lines → left_apart line lines ≡ lines
left_rests line [] h = refl
left_rests line (o ∷ os) h =
    ap (λ (t : Bool). if t then left_apart line os else o ∷ left_apart line os) h.0 ∙ ap (λ (ls : List (List Span)). o ∷ ls) (left_rests line os h.1)

widened_rests : (times : ℕ) (line : List Span) (lines : List (List Span)) → IsApart line lines → widened times line lines ≡ line ∷ lines
widened_rests zero line lines h = refl
widened_rests (suc times) line lines h =
    ap (λ (l : List Span). widened times l (left_apart line lines)) (taken_rests line lines h)
    ∙ ap (λ (ls : List (List Span)). widened times line ls) (left_rests line lines h) ∙ widened_rests times line lines h

widened_lines : (times : ℕ) (cells : List (List Span)) (line : List Span) (lines : List (List Span)) → length lines ≤ times →
    AreJoining cells line lines → AreLines cells (widened times line lines)
widened_lines zero cells line [] few j = joining_done cells line [] tt j
widened_lines zero cells line (o ∷ os) few j = absurd (omega (arith, few))
widened_lines (suc times) cells line lines few j =
    elim (apart_or_fewer line lines) [
      | inl apart ↦ subst (AreLines cells) (sym (widened_rests (suc times) line lines apart)) (joining_done cells line lines apart j)
      | inr less ↦ widened_lines times cells (taken_in line lines) (left_apart line lines) (omega (arith, few, less)) (joining_taken cells line lines j)
    ]

lines_of_are : (cells : List (List Span)) → AreLines cells (lines_of cells)
lines_of_are [] = record { covered = tt; used = tt; apart = tt; narrowest = λ others apart h. tt }
lines_of_are (cell ∷ cells) =
    widened_lines (length (lines_of cells)) (cell ∷ cells) cell (lines_of cells) (omega arith) (joining_none cell cells (lines_of cells) (lines_of_are cells))

pub lines_over_are : (cells : List (List Span)) → AreLines cells (lines_over cells)
lines_over_are cells = ordered_lines cells (lines_of cells) (lines_of_are cells)
