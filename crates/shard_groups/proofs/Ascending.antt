-- Lines in order.
use Rattle.std.proofs.Common.{◌≡◌, Bool, true, false, not, ◌&&◌, List, [], ◌∷◌, refl, inl, inr, if◌then◌else◌, IsTrue, IsFalse, Option, Some, None}
use Rattle.std.proofs.lemmas.Bool.{and_left, and_parts, and_right, false≢true, not-true, not_from_true, or_cases, or_from}
use Rattle.shard_groups.specs.declared.keys.KeyValue.{KeyValue}
use Rattle.shard_groups.specs.declared.keys.Span.{Span}
use Rattle.shard_groups.specs.Keys.{at_most, comes_before, first_part, part_before}
use Rattle.shard_groups.specs.Lines.{AreApart, AreCovered, AreLines, AreUsed, IsApart, IsAscending, IsCovered, IsUsed, in_order, placed}
use Rattle.shard_groups.proofs.LineSets.{all_more, meets_not}
use Rattle.shard_groups.proofs.ValueOrder.{either}

pub part_after : (x y : Option KeyValue) → IsTrue (part_before x y) → IsFalse (part_before y x)
part_after None None t = refl
part_after None (Some y) t = refl
part_after (Some x) None t = absurd (false≢true t)
part_after (Some x) (Some y) t = not_from_true (at_most x y) (either y x (not-true (at_most y x) t))

-- of two lines one at most comes before the other
pub after : (a b : List Span) → IsTrue (comes_before a b) → IsFalse (comes_before b a)
after [] b t = absurd (false≢true t)
after (x ∷ a) [] t = absurd (false≢true t)
after (x ∷ a) (y ∷ b) t =
    let p = part_before (first_part x) (first_part y) in
    let q = part_before (first_part y) (first_part x) in
    elim (or_cases p (not q && comes_before a b) t) [
      | inl h ↦ or_from q (not p && comes_before b a) (part_after (first_part x) (first_part y) h) (and_left (not p) (comes_before b a) (not_from_true p h))
      | inr h ↦
          (let e = and_parts (not q) (comes_before a b) h in
          or_from q (not p && comes_before b a) (not-true q e.0) (and_right (not p) (comes_before b a) (after a b e.1)))
    ]

-- ---- one more at its place

-- behind a line that comes before it
behind_if : (t : Bool) (m line other : List Span) (others : List (List Span)) → IsTrue (comes_before m line) → IsFalse (comes_before other m) →
    IsAscending (if t then other ∷ placed line others else line ∷ other ∷ others) →
    IsAscending (m ∷ (if t then other ∷ placed line others else line ∷ other ∷ others))
behind_if true m line other others h f rest = (f, rest)
behind_if false m line other others h f rest = (after m line h, rest)

behind : (m line : List Span) (ms : List (List Span)) → IsTrue (comes_before m line) → IsAscending (m ∷ ms) → IsAscending (placed line ms) →
    IsAscending (m ∷ placed line ms)
behind m line [] h was rest = (after m line h, tt)
behind m line (other ∷ others) h was rest = behind_if (comes_before other line) m line other others h was.0 rest

rest_ascends : (m : List Span) (ms : List (List Span)) → IsAscending (m ∷ ms) → IsAscending ms
rest_ascends m [] was = tt
rest_ascends m (other ∷ others) was = was.1

placed_if : (t : Bool) (m line : List Span) (ms : List (List Span)) → comes_before m line ≡ t → IsAscending (m ∷ ms) → IsAscending (placed line ms) →
    IsAscending (if t then m ∷ placed line ms else line ∷ m ∷ ms)
placed_if true m line ms e was rest = behind m line ms e was rest
placed_if false m line ms e was rest = (e, was)

placed_ascends : (line : List Span) (ms : List (List Span)) → IsAscending ms → IsAscending (placed line ms)
placed_ascends line [] was = tt
placed_ascends line (m ∷ ms) was = placed_if (comes_before m line) m line ms refl was (placed_ascends line ms (rest_ascends m ms was))

pub ordered_ascends : (lines : List (List Span)) → IsAscending (in_order lines)
ordered_ascends [] = tt
ordered_ascends (line ∷ lines) = placed_ascends line (in_order lines) (ordered_ascends lines)

-- ---- the same lines

covered_if : (t : Bool) (c line m : List Span) (ms : List (List Span)) → (IsCovered c (line ∷ ms) → IsCovered c (placed line ms)) →
    IsCovered c (line ∷ m ∷ ms) → IsCovered c (if t then m ∷ placed line ms else line ∷ m ∷ ms)
covered_if true c line m ms more (inl w) = inr (more (inl w))
covered_if true c line m ms more (inr (inl w)) = inl w
covered_if true c line m ms more (inr (inr h)) = inr (more (inr h))
covered_if false c line m ms more h = h

placed_covers : (c line : List Span) (ms : List (List Span)) → IsCovered c (line ∷ ms) → IsCovered c (placed line ms)
placed_covers c line [] h = h
placed_covers c line (m ∷ ms) h = covered_if (comes_before m line) c line m ms (placed_covers c line ms) h

ordered_covers : (c : List Span) (lines : List (List Span)) → IsCovered c lines → IsCovered c (in_order lines)
ordered_covers c [] h = h
ordered_covers c (line ∷ lines) (inl w) = placed_covers c line (in_order lines) (inl w)
ordered_covers c (line ∷ lines) (inr h) = placed_covers c line (in_order lines) (inr (ordered_covers c lines h))

apart_if : (t : Bool) (own line m : List Span) (ms : List (List Span)) → IsApart own (placed line ms) → IsApart own (line ∷ m ∷ ms) →
    IsApart own (if t then m ∷ placed line ms else line ∷ m ∷ ms)
apart_if true own line m ms more h = (h.1.0, more)
apart_if false own line m ms more h = h

placed_apart : (own line : List Span) (ms : List (List Span)) → IsApart own (line ∷ ms) → IsApart own (placed line ms)
placed_apart own line [] h = h
placed_apart own line (m ∷ ms) h = apart_if (comes_before m line) own line m ms (placed_apart own line ms (h.0, h.1.1)) h

ordered_apart_one : (own : List Span) (lines : List (List Span)) → IsApart own lines → IsApart own (in_order lines)
ordered_apart_one own [] h = tt
ordered_apart_one own (line ∷ lines) h = placed_apart own line (in_order lines) (h.0, ordered_apart_one own lines h.1)

all_apart_if : (t : Bool) (line m : List Span) (ms : List (List Span)) → IsApart line (m ∷ ms) → IsApart m ms → AreApart ms → AreApart (placed line ms) →
    AreApart (if t then m ∷ placed line ms else line ∷ m ∷ ms)
all_apart_if true line m ms h k rest more = (placed_apart m line ms (meets_not line m h.0, k), more)
all_apart_if false line m ms h k rest more = (h, (k, rest))

placed_all_apart : (line : List Span) (ms : List (List Span)) → IsApart line ms → AreApart ms → AreApart (placed line ms)
placed_all_apart line [] h k = (tt, tt)
placed_all_apart line (m ∷ ms) h k = all_apart_if (comes_before m line) line m ms h k.0 k.1 (placed_all_apart line ms h.1 k.1)

ordered_apart : (lines : List (List Span)) → AreApart lines → AreApart (in_order lines)
ordered_apart [] h = tt
ordered_apart (line ∷ lines) h = placed_all_apart line (in_order lines) (ordered_apart_one line lines h.0) (ordered_apart lines h.1)

narrow_if : (t : Bool) (line m : List Span) (ms others : List (List Span)) → IsCovered line others → IsCovered m others → AreCovered ms others →
    AreCovered (placed line ms) others → AreCovered (if t then m ∷ placed line ms else line ∷ m ∷ ms) others
narrow_if true line m ms others h k rest more = (k, more)
narrow_if false line m ms others h k rest more = (h, (k, rest))

placed_narrow : (line : List Span) (ms others : List (List Span)) → IsCovered line others → AreCovered ms others → AreCovered (placed line ms) others
placed_narrow line [] others h k = (h, tt)
placed_narrow line (m ∷ ms) others h k =
    narrow_if (comes_before m line) line m ms others h k.0 k.1 (placed_narrow line ms others h k.1)

ordered_narrow : (lines others : List (List Span)) → AreCovered lines others → AreCovered (in_order lines) others
ordered_narrow [] others h = tt
ordered_narrow (line ∷ lines) others h = placed_narrow line (in_order lines) others h.0 (ordered_narrow lines others h.1)

used_if : (t : Bool) (line m : List Span) (ms cells : List (List Span)) → IsUsed line cells → IsUsed m cells → AreUsed ms cells →
    AreUsed (placed line ms) cells → AreUsed (if t then m ∷ placed line ms else line ∷ m ∷ ms) cells
used_if true line m ms cells h k rest more = (k, more)
used_if false line m ms cells h k rest more = (h, (k, rest))

placed_used : (line : List Span) (ms cells : List (List Span)) → IsUsed line cells → AreUsed ms cells → AreUsed (placed line ms) cells
placed_used line [] cells h k = (h, tt)
placed_used line (m ∷ ms) cells h k = used_if (comes_before m line) line m ms cells h k.0 k.1 (placed_used line ms cells h k.1)

ordered_used : (lines cells : List (List Span)) → AreUsed lines cells → AreUsed (in_order lines) cells
ordered_used [] cells h = tt
ordered_used (line ∷ lines) cells h = placed_used line (in_order lines) cells h.0 (ordered_used lines cells h.1)

-- lines in order are lines
pub ordered_lines : (cells lines : List (List Span)) → AreLines cells lines → AreLines cells (in_order lines)
ordered_lines cells lines are = record {
  covered = all_more cells lines (in_order lines) (λ c h. ordered_covers c lines h) are.covered;
  used = ordered_used lines cells are.used;
  apart = ordered_apart lines are.apart;
  narrowest = λ others apart covered. ordered_narrow lines others (are.narrowest others apart covered);
}
