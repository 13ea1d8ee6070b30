-- What the parts that are kept say of the parts that the lines tell.
use Rattle.std.proofs.Common.{◌≡◌, ℕ, zero, suc, ◌+◌, ◌<◌, ◌≤◌, Bool, true, false, not, cond, nat_lt, Some, None, List, [], ◌∷◌, length, refl, sym, subst, ◌∙◌, arith}
use Rattle.std.proofs.lemmas.Bool.{false≢true}
use Rattle.std.proofs.lemmas.Bool.Decides.{nat_tests}
use Rattle.std.specs.List.{list_all, position_or_len}
use Rattle.std.specs.declared.cmp.Ordering.{Ordering}
use Rattle.std.specs.declared.cmp.Ordering.TheVariants.{Less, Equal, Greater}
use Rattle.report_parts.proofs.Courses.{tag_of_told, tag_stays}
use Rattle.daq_table.proofs.Places.{no_place}
use Rattle.report_parts.proofs.FromRounds.{same_count, same_has}
use Rattle.report_parts.proofs.Ordered.{none_in_order, order_stays}
use Rattle.report_parts.specs.Course.{Course, Holds, IsOpen, Stands, Task, Tell}
use Rattle.report_parts.specs.Ends.{first_open}
use Rattle.report_parts.specs.Passed.{AllTellFrom}
use Rattle.report_parts.specs.Rounds.{has_block, is_ended}
use Rattle.report_parts.specs.Tags.{AreInOrder, against, behind_tag, by_order, part_at, tag_of, told_of, with_part}
use Rattle.report_parts.specs.Told.{Told}

same_place : (round : ℕ) (wholes parts : List Told) → AllTellFrom round wholes parts →
    position_or_len (λ (part : Told). not (is_ended part.place)) parts ≡ position_or_len (λ (part : Told). not (is_ended part.place)) wholes
same_place round [] [] h = refl
same_place round [] (part ∷ parts) h = absurd h
same_place round (whole ∷ wholes) [] h = absurd h
same_place round (whole ∷ wholes) (part ∷ parts) h = let rest = same_place round wholes parts h.1 in rw (h.0.place, rest) refl

pub same_open : (round : ℕ) (wholes parts : List Told) → AllTellFrom round wholes parts → first_open wholes ≡ first_open parts
same_open round wholes parts h = rw (sym (same_place round wholes parts h), sym (same_count round wholes parts h)) refl

pub same_tag_at : (round place : ℕ) (wholes parts : List Told) → AllTellFrom round wholes parts → (part_at place parts).tag ≡ (part_at place wholes).tag
same_tag_at round place [] [] h = refl
same_tag_at round place [] (part ∷ parts) h = absurd h
same_tag_at round place (whole ∷ wholes) [] h = absurd h
same_tag_at round zero (whole ∷ wholes) (part ∷ parts) h = h.0.tag
same_tag_at round (suc place) (whole ∷ wholes) (part ∷ parts) h = same_tag_at round place wholes parts h.1

-- the place is that of a part
by_test : (n m place : ℕ) (b : Bool) → nat_lt n m ≡ b → cond b (Some n) None ≡ Some place → place < m
by_test n m place true e h = let same : n ≡ place = cc in grind (arith, nat_tests)
by_test n m place false e h = absurd (cc)

pub open_within : (parts : List Told) (place : ℕ) → first_open parts ≡ Some place → place < length parts
open_within parts place h =
    let n = position_or_len (λ (part : Told). not (is_ended part.place)) parts in
    by_test n (length parts) place (nat_lt n (length parts)) refl h

-- ---- where no part goes on

first_ended : (own : Bool) (rest count : ℕ) → cond (not (not own)) (1 + rest) 0 ≡ suc count → (own ≡ true) × (rest ≡ count)
first_ended true rest count e = (refl, omega (arith, e))
first_ended false rest count e = absurd (omega (arith, e))

all_have : (round : ℕ) (parts : List Told) → length parts ≡ position_or_len (λ (part : Told). not (is_ended part.place)) parts →
    list_all (has_block round) parts ≡ true
all_have round [] e = refl
all_have round (part ∷ parts) e =
    let first = first_ended (is_ended part.place) (position_or_len (λ (part : Told). not (is_ended part.place)) parts) (length parts) (sym e) in
    let rest = all_have round parts (sym first.1) in
    rw (first.0, rest) refl

opened : (course : Course) (parts : List Told) (text : List ℕ) → IsOpen course parts text → first_open course.parts ≡ None →
    length course.parts ≡ course.task.count → ⊥
opened course parts text h none all =
    let kept = h.ahead.kept in
    let count = same_count course.round parts course.parts kept in
    let rest = h.rests (sym count ∙ all) in
    let has = all_have course.round course.parts (no_place _ course.parts none) in
    false≢true (sym rest.waits ∙ sym (same_has course.round course.round parts course.parts kept) ∙ has)

-- a report that goes on has not ended in all its parts
pub still_open : (course : Course) (lines : List (List ℕ)) (text : List ℕ) → Stands course lines text → course.end ≡ None →
    first_open course.parts ≡ None → length course.parts ≡ course.task.count → ⊥
still_open course lines text h e none all =
    opened course h.parts text (subst (λ o. Holds o course h.parts text) e h.holds) none all

pub kept_parts : (course : Course) (lines : List (List ℕ)) (text : List ℕ) (h : Stands course lines text) → course.end ≡ None →
    AllTellFrom course.round h.parts course.parts
kept_parts course lines text h e =
    let o : IsOpen course h.parts text = subst (λ o. Holds o course h.parts text) e h.holds in
    o.ahead.kept

-- ---- the order of tags

pub tell_in_order : (task : Task) (parts : List Told) (lines : List (List ℕ)) (last : List Told) → AreInOrder parts → Tell task parts lines last → AreInOrder last
tell_in_order task parts [] last order h = subst AreInOrder (sym h) order
tell_in_order task parts (line ∷ lines) last order h =
    tell_in_order task h.0 lines last (subst AreInOrder (sym h.1.taken.put) (order_stays h.1.taken.told parts order)) h.2

pub tells_in_order : (task : Task) (lines : List (List ℕ)) (last : List Told) → Tell task [] lines last → AreInOrder last
tells_in_order task lines last h = tell_in_order task [] lines last none_in_order h

-- ---- the tag of a part

abbrev AllShort : List Told → Type 0
AllShort [] = Unit {0}
AllShort (part ∷ parts) = (length part.tag ≤ 255) × AllShort parts

each_way : (P : List Told → Type 0) (o : Ordering) (a b c : List Told) → P a → P b → P c → P (by_order o a b c)
each_way P Less a b c x y z = x
each_way P Equal a b c x y z = y
each_way P Greater a b c x y z = z

put_short : (told : Told) (parts : List Told) → length told.tag ≤ 255 → AllShort parts → AllShort (with_part told parts)
put_short told [] h all = (h, tt)
put_short told (part ∷ parts) h all =
    each_way AllShort (against told.tag part) (part ∷ with_part told parts) (told ∷ parts) (told ∷ part ∷ parts)
    (all.0, put_short told parts h all.1) (h, all.1) (h, all)

all_short : (task : Task) (parts : List Told) (lines : List (List ℕ)) (last : List Told) → AllShort parts → Tell task parts lines last → AllShort last
all_short task parts [] last all h = subst AllShort (sym h) all
all_short task parts (line ∷ lines) last all h =
    let own = told_of (tag_of line) parts in
    let taken = h.1.taken in
    let tag = tag_stays task.query task.shape own (behind_tag line) taken.told taken.taken ∙ tag_of_told (tag_of line) parts in
    let short : length taken.told.tag ≤ 255 = subst (λ (t : List ℕ). length t ≤ 255) (sym tag) taken.is_tag.1 in
    all_short task h.0 lines last (subst AllShort (sym taken.put) (put_short taken.told parts short all)) h.2

short_there : (parts : List Told) (place : ℕ) → AllShort parts → length (part_at place parts).tag ≤ 255
short_there [] place all = omega arith
short_there (part ∷ parts) zero all = all.0
short_there (part ∷ parts) (suc place) all = short_there parts place all.1

-- a part's tag is one
pub short_tag : (course : Course) (lines : List (List ℕ)) (text : List ℕ) → Stands course lines text → course.end ≡ None → (place : ℕ) →
    length (part_at place course.parts).tag ≤ 255
short_tag course lines text h e place =
    subst (λ (t : List ℕ). length t ≤ 255) (sym (same_tag_at course.round place h.parts course.parts (kept_parts course lines text h e)))
    (short_there h.parts place (all_short course.task [] lines h.parts tt h.told))
