-- How the lines of some cells change where a cell more comes.
use Rattle.std.proofs.Common.{◌≡◌, ℕ, suc, ◌+◌, ◌<◌, Bool, false, List, [], ◌∷◌, ◌++◌, length, get_or, take, drop, sym, ap, ◌∙◌, subst, inl, inr, ◌⊎◌, IsTrue, IsFalse, add-one}
use Rattle.std.specs.List.{insert, remove}
use Rattle.std.proofs.lemmas.Bool.{both_ways, false≢true, false_from_ne_true}
use Rattle.std.proofs.lemmas.List.{drop_more, get_or_default, take-append-drop, take_more}
use Rattle.shard_groups.specs.declared.keys.Span.{Span}
use Rattle.shard_groups.specs.Keys.{hull, is_within, meets}
use Rattle.shard_groups.specs.Lines.{AreApart, AreCovered, AreJoining, AreLines, AreUsed, IsApart, IsCovered, IsUsed}
use Rattle.shard_groups.proofs.Spans.{hull_within, left_within, meets_back, meets_both, right_within, within_chain, within_itself}

-- ---- what is covered

pub covered_left : (c : List Span) (front back : List (List Span)) → IsCovered c front → IsCovered c (front ++ back)
covered_left c [] back h = absurd h
covered_left c (l ∷ front) back (inl w) = inl w
covered_left c (l ∷ front) back (inr h) = inr (covered_left c front back h)

pub covered_right : (c : List Span) (front back : List (List Span)) → IsCovered c back → IsCovered c (front ++ back)
covered_right c [] back h = h
covered_right c (l ∷ front) back h = inr (covered_right c front back h)

covered_cases : (c : List Span) (front back : List (List Span)) → IsCovered c (front ++ back) → (IsCovered c front) ⊎ (IsCovered c back)
covered_cases c [] back h = inr h
covered_cases c (l ∷ front) back (inl w) = inl (inl w)
covered_cases c (l ∷ front) back (inr h) = elim (covered_cases c front back h) [ inl k ↦ inl (inr k) | inr k ↦ inr k ]

-- what lies within something that is covered is covered
pub covered_within : (c d : List Span) (lines : List (List Span)) → IsTrue (is_within c d) → IsCovered d lines → IsCovered c lines
covered_within c d [] w h = h
covered_within c d (l ∷ lines) w (inl v) = inl (within_chain c d l w v)
covered_within c d (l ∷ lines) w (inr h) = inr (covered_within c d lines w h)

pub covered_chain : (c : List Span) (lines others : List (List Span)) → IsCovered c lines → AreCovered lines others → IsCovered c others
covered_chain c [] others h all = absurd h
covered_chain c (l ∷ lines) others (inl w) all = covered_within c l others w all.0
covered_chain c (l ∷ lines) others (inr h) all = covered_chain c lines others h all.1

pub all_chain : (cells lines others : List (List Span)) → AreCovered cells lines → AreCovered lines others → AreCovered cells others
all_chain [] lines others h all = tt
all_chain (c ∷ cells) lines others h all = (covered_chain c lines others h.0 all, all_chain cells lines others h.1 all)

pub all_more : (cells lines others : List (List Span)) → ((c : List Span) → IsCovered c lines → IsCovered c others) → AreCovered cells lines → AreCovered cells others
all_more [] lines others more h = tt
all_more (c ∷ cells) lines others more h = (more c h.0, all_more cells lines others more h.1)

pub covers_itself : (cells : List (List Span)) → AreCovered cells cells
covers_itself [] = tt
covers_itself (c ∷ cells) = (inl (within_itself c), all_more cells cells (c ∷ cells) (λ d k. inr k) (covers_itself cells))

pub covered_append : (front back others : List (List Span)) → AreCovered front others → AreCovered back others → AreCovered (front ++ back) others
covered_append [] back others h k = k
covered_append (l ∷ front) back others h k = (h.0, covered_append front back others h.1 k)

pub covered_front : (front back others : List (List Span)) → AreCovered (front ++ back) others → AreCovered front others
covered_front [] back others h = tt
covered_front (l ∷ front) back others h = (h.0, covered_front front back others h.1)

pub covered_back : (front back others : List (List Span)) → AreCovered (front ++ back) others → AreCovered back others
covered_back [] back others h = h
covered_back (l ∷ front) back others h = covered_back front back others h.1

-- ---- what is used

pub used_left : (l : List Span) (front back : List (List Span)) → IsUsed l front → IsUsed l (front ++ back)
used_left l [] back h = absurd h
used_left l (c ∷ front) back (inl w) = inl w
used_left l (c ∷ front) back (inr h) = inr (used_left l front back h)

pub used_right : (l : List Span) (front back : List (List Span)) → IsUsed l back → IsUsed l (front ++ back)
used_right l [] back h = h
used_right l (c ∷ front) back h = inr (used_right l front back h)

pub used_cases : (l : List Span) (front back : List (List Span)) → IsUsed l (front ++ back) → (IsUsed l front) ⊎ (IsUsed l back)
used_cases l [] back h = inr h
used_cases l (c ∷ front) back (inl w) = inl (inl w)
used_cases l (c ∷ front) back (inr h) = elim (used_cases l front back h) [ inl k ↦ inl (inr k) | inr k ↦ inr k ]

-- what has all keys of something that has a cell has that cell
pub used_within : (l m : List Span) (cells : List (List Span)) → IsTrue (is_within l m) → IsUsed l cells → IsUsed m cells
used_within l m [] w h = h
used_within l m (c ∷ cells) w (inl v) = inl (within_chain c l m v w)
used_within l m (c ∷ cells) w (inr h) = inr (used_within l m cells w h)

pub all_used : (lines cells others : List (List Span)) → ((l : List Span) → IsUsed l cells → IsUsed l others) → AreUsed lines cells → AreUsed lines others
all_used [] cells others more h = tt
all_used (l ∷ lines) cells others more h = (more l h.0, all_used lines cells others more h.1)

used_by_one : (l : List Span) (lines cells : List (List Span)) → IsUsed l lines → AreUsed lines cells → IsUsed l cells
used_by_one l [] cells h all = absurd h
used_by_one l (m ∷ lines) cells (inl w) all = used_within m l cells w all.0
used_by_one l (m ∷ lines) cells (inr h) all = used_by_one l lines cells h all.1

pub used_chain : (others lines cells : List (List Span)) → AreUsed others lines → AreUsed lines cells → AreUsed others cells
used_chain others lines cells h all = all_used others lines cells (λ l k. used_by_one l lines cells k all) h

pub used_itself : (cells : List (List Span)) → AreUsed cells cells
used_itself [] = tt
used_itself (c ∷ cells) = (inl (within_itself c), all_used cells cells (c ∷ cells) (λ d k. inr k) (used_itself cells))

-- lines in two parts, each by cells of its own
pub used_front : (lines front back : List (List Span)) → AreUsed lines front → AreUsed lines (front ++ back)
used_front lines front back h = all_used lines front (front ++ back) (λ l k. used_left l front back k) h

pub used_back : (lines front back : List (List Span)) → AreUsed lines back → AreUsed lines (front ++ back)
used_back lines front back h = all_used lines back (front ++ back) (λ l k. used_right l front back k) h

pub used_append : (front back cells : List (List Span)) → AreUsed front cells → AreUsed back cells → AreUsed (front ++ back) cells
used_append [] back cells h k = k
used_append (l ∷ front) back cells h k = (h.0, used_append front back cells h.1 k)

pub used_in_front : (front back cells : List (List Span)) → AreUsed (front ++ back) cells → AreUsed front cells
used_in_front [] back cells h = tt
used_in_front (l ∷ front) back cells h = (h.0, used_in_front front back cells h.1)

pub used_behind : (front back cells : List (List Span)) → AreUsed (front ++ back) cells → AreUsed back cells
used_behind [] back cells h = h
used_behind (l ∷ front) back cells h = used_behind front back cells h.1

-- one line takes in another
pub used_joined : (line other : List Span) (front back cells : List (List Span)) → IsTrue (meets line other) →
    AreUsed (line ∷ (front ++ other ∷ back)) cells → AreUsed (hull line other ∷ (front ++ back)) cells
used_joined line other front back cells m h = (
  used_within line (hull line other) cells (left_within line other m) h.0,
  used_append front back cells (used_in_front front (other ∷ back) cells h.1) (used_behind front (other ∷ back) cells h.1).1,
)

-- ---- what is apart

apart_left : (line : List Span) (front back : List (List Span)) → IsApart line (front ++ back) → IsApart line front
apart_left line [] back h = tt
apart_left line (l ∷ front) back h = (h.0, apart_left line front back h.1)

apart_right : (line : List Span) (front back : List (List Span)) → IsApart line (front ++ back) → IsApart line back
apart_right line [] back h = h
apart_right line (l ∷ front) back h = apart_right line front back h.1

apart_both : (line : List Span) (front back : List (List Span)) → IsApart line front → IsApart line back → IsApart line (front ++ back)
apart_both line [] back h k = k
apart_both line (l ∷ front) back h k = (h.0, apart_both line front back h.1 k)

without_one : (front : List (List Span)) (other : List Span) (back : List (List Span)) → AreApart (front ++ other ∷ back) → AreApart (front ++ back)
without_one [] other back h = h.1
without_one (l ∷ front) other back h =
    (apart_both l front back (apart_left l front (other ∷ back) h.0) (apart_right l front (other ∷ back) h.0).1, without_one front other back h.1)

pub meets_not : (a b : List Span) → IsFalse (meets a b) → IsFalse (meets b a)
meets_not a b f = false_from_ne_true (meets b a) (λ t. false≢true (sym f ∙ meets_back b a t))

-- what meets something within one of these is not apart from them
meets_none : (a b o : List Span) (others : List (List Span)) → IsTrue (meets a b) → IsTrue (is_within a o) → IsApart o others → IsCovered b others → ⊥
meets_none a b o [] m w apart h = h
meets_none a b o (p ∷ others) m w apart (inl v) = both_ways (meets o p) apart.0 (meets_both a b o p w v m)
meets_none a b o (p ∷ others) m w apart (inr h) = meets_none a b o others m w apart.1 h

-- two that meet lie within one of some that are apart
pub hull_covered : (a b : List Span) (others : List (List Span)) → IsTrue (meets a b) → AreApart others → IsCovered a others → IsCovered b others →
    IsCovered (hull a b) others
hull_covered a b [] m apart h k = h
hull_covered a b (o ∷ others) m apart (inl w) (inl v) = inl (hull_within a b o w v)
hull_covered a b (o ∷ others) m apart (inl w) (inr k) = absurd (meets_none a b o others m w apart.0 k)
hull_covered a b (o ∷ others) m apart (inr h) (inl v) = absurd (meets_none b a o others (meets_back a b m) v apart.0 h)
hull_covered a b (o ∷ others) m apart (inr h) (inr k) = inr (hull_covered a b others m apart.1 h k)

-- ---- a cell more

pub joining_none : (cell : List Span) (cells lines : List (List Span)) → AreLines cells lines → AreJoining (cell ∷ cells) cell lines
joining_none cell cells lines h = record {
  covered = (inl (within_itself cell), all_more cells lines (cell ∷ lines) (λ c k. inr k) h.covered);
  used = (inl (within_itself cell), all_used lines cells (cell ∷ cells) (λ l k. inr k) h.used);
  apart = h.apart;
  narrowest = λ others apart k. (k.0, h.narrowest others apart k.1);
}

pub joined_covers : (line other : List Span) (front back : List (List Span)) → IsTrue (meets line other) → (c : List Span) →
    IsCovered c (line ∷ (front ++ other ∷ back)) → IsCovered c (hull line other ∷ (front ++ back))
joined_covers line other front back m c (inl w) = inl (within_chain c line (hull line other) w (left_within line other m))
joined_covers line other front back m c (inr h) =
    elim (covered_cases c front (other ∷ back) h) [
      | inl k ↦ inr (covered_left c front back k)
      | inr k ↦ elim k [
        | inl w ↦ inl (within_chain c other (hull line other) w (right_within line other m))
        | inr b ↦ inr (covered_right c front back b)
      ]
    ]

joining_split : (cells : List (List Span)) (line other : List Span) (front back : List (List Span)) → IsTrue (meets line other) →
    AreJoining cells line (front ++ other ∷ back) → AreJoining cells (hull line other) (front ++ back)
joining_split cells line other front back m h = record {
  covered = all_more cells (line ∷ (front ++ other ∷ back)) (hull line other ∷ (front ++ back)) (joined_covers line other front back m) h.covered;
  used = used_joined line other front back cells m h.used;
  apart = without_one front other back h.apart;
  narrowest = λ others apart k.
      let all = h.narrowest others apart k in
      let rest = covered_back front (other ∷ back) others all.1 in
      (hull_covered line other others m apart all.0 rest.0, covered_append front back others (covered_front front (other ∷ back) others all.1) rest.1);
}

split_at : (lines : List (List Span)) (at : ℕ) (d : List Span) → at < length lines → take at lines ++ get_or lines at d ∷ drop (suc at) lines ≡ lines
split_at lines at d h =
    ap (λ l. take at lines ++ l) (sym (drop_more lines at d h ∙ ap (λ n. get_or lines at d ∷ drop n lines) (add-one at))) ∙ take-append-drop at lines

-- a line that meets the new one is taken into it
pub joining_more : (cells : List (List Span)) (line : List Span) (lines : List (List Span)) (at : ℕ) (d : List Span) → at < length lines →
    IsTrue (meets line (get_or lines at d)) → AreJoining cells line lines → AreJoining cells (hull line (get_or lines at d)) (remove lines at)
joining_more cells line lines at d h m j =
    joining_split cells line (get_or lines at d) (take at lines) (drop (suc at) lines) m (subst (AreJoining cells line) (sym (split_at lines at d h)) j)

-- where none is left that does, they are lines
pub joining_done : (cells : List (List Span)) (line : List Span) (lines : List (List Span)) → IsApart line lines → AreJoining cells line lines →
    AreLines cells (line ∷ lines)
joining_done cells line lines none h = record { covered = h.covered; used = h.used; apart = (none, h.apart); narrowest = h.narrowest }

-- ---- as the code has them

apart_push : (line : List Span) (lines : List (List Span)) (x : List Span) → IsApart line lines → IsFalse (meets line x) → IsApart line (lines ++ x ∷ [])
apart_push line [] x h f = (f, tt)
apart_push line (l ∷ lines) x h f = (h.0, apart_push line lines x h.1 f)

pub apart_at : (line : List Span) (lines : List (List Span)) (at : ℕ) (x : List Span) (r : Bool) → at < length lines → x ≡ get_or lines at x →
    r ≡ meets line x → r ≡ false → IsApart line (take at lines) → IsApart line (take (at + 1) lines)
apart_at line lines at x r h e m f apart =
    subst (IsApart line) (ap (λ y. take at lines ++ y ∷ []) e ∙ sym (take_more lines at x h)) (apart_push line (take at lines) x apart (sym m ∙ f))

pub joined : (cells : List (List Span)) (line line2 next : List Span) (lines lines2 rest : List (List Span)) (other : List Span) (at : ℕ) →
    lines2 ≡ lines → line2 ≡ line → (at < length lines2) × IsTrue (meets line2 (get_or lines2 at [])) → other ≡ get_or lines at other →
    rest ≡ remove lines at → next ≡ hull line other → AreJoining cells line lines → AreJoining cells next rest
joined cells line line2 next lines lines2 rest other at e f found o r n j =
    let here : at < length lines = subst (λ ls. at < length ls) e found.0 in
    let meet : IsTrue (meets line (get_or lines at [])) = subst (λ l. IsTrue (meets l (get_or lines at []))) f (subst (λ ls. IsTrue (meets line2 (get_or ls at []))) e found.1) in
    let same : get_or lines at [] ≡ other = get_or_default lines at [] other here ∙ sym o in
    subst (λ ls. AreJoining cells next ls) (sym r)
    (subst (λ l. AreJoining cells l (remove lines at)) (ap (hull line) same ∙ sym n) (joining_more cells line lines at [] here meet j))

pub lines_done : (cells : List (List Span)) (line line2 : List Span) (lines lines2 : List (List Span)) → lines2 ≡ lines → line2 ≡ line → IsApart line2 lines2 →
    AreJoining cells line lines → AreLines cells (insert lines 0 line)
lines_done cells line line2 lines lines2 e f none j =
    joining_done cells line lines (subst (λ l. IsApart l lines) f (subst (λ ls. IsApart line2 ls) e none)) j
