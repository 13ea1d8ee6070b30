-- That a report shows the first rows of which parts tell, each behind those before it, whatever lines come.
use Rattle.std.proofs.Common.{◌≡◌, ℕ, ◌-◌, ◌<◌, ◌≤◌, min, Bool, true, false, Option, Some, None, List, [], ◌∷◌, ◌++◌, length, set, get_or, if◌then◌else◌, sym, subst, inl, inr, arith, All}
use Rattle.std.proofs.lemmas.List.Elements.{All-cons, All-head, All-nil, All-push, All-tail}
use Rattle.std.specs.declared.cmp.Ordering.{Ordering}
use Rattle.std.specs.declared.cmp.Ordering.TheVariants.{Less, Equal, Greater}
use Rattle.report_text.specs.RowBlocks.{RowsTold, TakesRows}
use Rattle.report_text.specs.Rows.{IsShownRow}
use Rattle.report_text.specs.declared.groups.GroupLine.{GroupLine}
use Rattle.part_rows.specs.Combined.{PartListing}
use Rattle.part_rows.specs.ReadBack.{AreShownParts}
use Rattle.part_rows.specs.Rising.{AreRisingLines}
use Rattle.part_rows.specs.Worlds.{IsIn}
use Rattle.part_rows.proofs.RisingRows.{rises_on}
use Rattle.query_model.specs.declared.query.ItemKind.{ItemKind}
use Rattle.report_parts.proofs.Pushed.{at_later}
use Rattle.report_parts.specs.Blocks.{no_block, rows_of}
use Rattle.report_parts.specs.Entries.{last_entry, no_answer}
use Rattle.report_parts.specs.Passed.{AllTellFrom, TellsFrom}
use Rattle.report_parts.specs.Rounds.{all_listed_in, listed_in}
use Rattle.report_parts.specs.Shown.{AreShownFrom, AreTakenRows, IsShownFrom}
use Rattle.report_parts.specs.Tags.{TakesTagged, against, behind_tag, by_order, tag_of, told_of, with_part}
use Rattle.report_parts.specs.Told.{BeginsGroup, GoesOn, GroupsGoOn, ListsRow, RowsGoOn, TakesAt, TakesBehindAnswer, TakesInside, TakesItem, TakesRest, Told, at_place, block_done, closed, closed_by, completed, completed_by, entry_of, extended, is_whole, nothing_told, opened_by, rows_done, text_entry, with_current, with_group, with_rows}
use Rattle.report_parts.specs.declared.block.Block.{Block}
use Rattle.report_parts.specs.declared.block.Block.TheVariants.{Groups, Rows, Totals}
use Rattle.report_parts.specs.declared.entry.Entry.{Entry}
use Rattle.report_parts.specs.declared.part.Place.{Place}
use Rattle.report_parts.specs.declared.part.Place.TheVariants.{Query, Opened, Round, Group, Items, Row, Ended}
use Rattle.report_parts.specs.declared.shape.Shape.{Shape}

-- ---- the ways to go on

none_taken : AreTakenRows []
none_taken = record { shown = All-nil IsShownRow; rising = tt }

block_more : (round : ℕ) (told : Told) (block : Block) → IsShownFrom round told → AreTakenRows (rows_of block) → (later : ℕ) → round ≤ later →
    AreTakenRows (rows_of (get_or (told.blocks ++ block ∷ []) (min later (length (told.blocks ++ block ∷ []) - 1)) no_block))
block_more round told block h k later le = at_later (λ b. AreTakenRows (rows_of b)) later told.blocks block (h.blocks later le) k

-- before the first line
nothing_shown : (round : ℕ) (tag : List ℕ) → 0 < length tag → IsShownFrom round (nothing_told tag)
nothing_shown round tag some = record { tag = some; blocks = λ later le. none_taken; begun = none_taken }

same_shown : (round : ℕ) (told next : Told) → next ≡ told → IsShownFrom round told → IsShownFrom round next
same_shown round told next e h = subst (λ (t : Told). IsShownFrom round t) (sym e) h

placed : (round : ℕ) (told next : Told) (place : Place) → next ≡ at_place told place → IsShownFrom round told → IsShownFrom round next
placed round told next place e h =
    same_shown round (at_place told place) next e (record { tag = h.tag; blocks = h.blocks; begun = h.begun })

-- the block of totals is whole, or the section of the group
closed_shown : (round : ℕ) (group : Option GroupLine) (told : Told) → IsShownFrom round told → IsShownFrom round (closed_by group told)
closed_shown round None told h =
    record { tag = h.tag; blocks = block_more round told (Totals told.current) h none_taken; begun = h.begun }
closed_shown round (Some group) told h = record { tag = h.tag; blocks = h.blocks; begun = h.begun }

done_shown : (round : ℕ) (told : Told) → IsShownFrom round told → IsShownFrom round (block_done told)
done_shown round told h =
    record { tag = h.tag; blocks = block_more round told (Groups told.sections) h none_taken; begun = h.begun }

completed_shown : (round : ℕ) (group : Option GroupLine) (told : Told) → IsShownFrom round told → IsShownFrom round (completed_by group told)
completed_shown round None told h = closed_shown round None told h
completed_shown round (Some group) told h = done_shown round (closed_by (Some group) told) (closed_shown round (Some group) told h)

put_in : (whole : Bool) (round : ℕ) (told next : Told) (current : List Entry) →
    next ≡ (if whole then closed (with_current told current) else at_place (with_current told current) Items) → IsShownFrom round told →
    IsShownFrom round next
put_in true round told next current e h =
    same_shown round (closed (with_current told current)) next e
    (closed_shown round told.group (with_current told current) (record { tag = h.tag; blocks = h.blocks; begun = h.begun }))
put_in false round told next current e h =
    placed round (with_current told current) next Items e (record { tag = h.tag; blocks = h.blocks; begun = h.begun })

goes_on : (shape : Shape) (round : ℕ) (told next : Told) (line : List ℕ) → GoesOn shape told line next → IsShownFrom round told → IsShownFrom round next
goes_on shape round told next line (inl h) k = placed round told next (opened_by shape) h.begun k
goes_on shape round told next line (inr h) k = placed round told next (Ended h.end) h.ended k

begins_group : (columns round : ℕ) (told next : Told) (line : List ℕ) → BeginsGroup columns told line next → IsShownFrom round told → IsShownFrom round next
begins_group columns round told next line h k =
    same_shown round (with_group told h.group) next h.begun (record { tag = k.tag; blocks = k.blocks; begun = k.begun })

closes : (shape : Shape) (round : ℕ) (told next : Told) (line : List ℕ) → GroupsGoOn shape (closed told) (completed told) line next →
    IsShownFrom round told → IsShownFrom round next
closes shape round told next line (inl h) k = begins_group shape.columns round (closed told) next line h (closed_shown round told.group told k)
closes shape round told next line (inr h) k = goes_on shape round (completed told) next line h (completed_shown round told.group told k)

between : (shape : Shape) (round : ℕ) (told next : Told) (line : List ℕ) → GroupsGoOn shape told (block_done told) line next →
    IsShownFrom round told → IsShownFrom round next
between shape round told next line (inl h) k = begins_group shape.columns round told next line h k
between shape round told next line (inr h) k = goes_on shape round (block_done told) next line h (done_shown round told k)

-- a row more
rows_shown : (limit : ℕ) (told : RowsTold) (line : List ℕ) (next : RowsTold) → TakesRows limit told line next → AreTakenRows told.rows →
    AreTakenRows next.rows
rows_shown limit told line next (inl h) k = subst (λ (rows : RowsTold). AreTakenRows rows.rows) (sym h.2) k
rows_shown limit told line next (inr (inl h)) k =
    subst (λ (rows : RowsTold). AreTakenRows rows.rows) (sym h.2) (record { shown = All-push IsShownRow told.rows h.0 k.shown h.1.is_shown; rising = rises_on told.rows h.0 k.rising h.1.behind })
rows_shown limit told line next (inr (inr h)) k = subst (λ (rows : RowsTold). AreTakenRows rows.rows) (sym h.1) k

lists_row : (shape : Shape) (round : ℕ) (told next : Told) (line : List ℕ) → ListsRow shape told line next → IsShownFrom round told → IsShownFrom round next
lists_row shape round told next line h k = by h.goes_on
  where
    shown : AreTakenRows h.rows.rows
    shown = rows_shown h.asked.limit told.rows line h.rows h.taken k.begun

    by : RowsGoOn (with_rows told h.rows) next → IsShownFrom round next
    by (inl g) = same_shown round (rows_done (with_rows told h.rows)) next g.1
        (record { tag = k.tag; blocks = block_more round told (Rows h.rows) k shown; begun = none_taken })
    by (inr g) = same_shown round (with_rows told h.rows) next g.1 (record { tag = k.tag; blocks = k.blocks; begun = shown })

rest : (shape : Shape) (round : ℕ) (told : Told) (line : List ℕ) (next : Told) → TakesRest shape told line next → IsShownFrom round told →
    IsShownFrom round next
rest shape round told line next (inl h) k = same_shown round told next h.same k
rest shape round told line next (inr h) k = closes shape round told next line h.1.goes_on k

behind_answer : (shape : Shape) (round : ℕ) (told : Told) (line : List ℕ) (next : Told) → TakesBehindAnswer shape told line next →
    IsShownFrom round told → IsShownFrom round next
behind_answer shape round told line next (inl (inl h)) k =
    let current = set told.current (length told.current - 1) (extended (last_entry told.current) h.extra None) in
    put_in (is_whole shape.kinds told.closing current) round told next current h.told_so k
behind_answer shape round told line next (inl (inr h)) k =
    let current = set told.current (length told.current - 1) (extended (last_entry told.current) no_answer (Some h.1.clip)) in
    put_in (is_whole shape.kinds told.closing current) round told next current h.1.told_so k
behind_answer shape round told line next (inr h) k = rest shape round told line next h.1 k

item : (kinds : List ItemKind) (round : ℕ) (told : Told) (line : List ℕ) (next : Told) → TakesItem kinds told line next → IsShownFrom round told →
    IsShownFrom round next
item kinds round told line next (inl h) k =
    let current = told.current ++ entry_of h.answer ∷ [] in
    put_in (is_whole kinds told.closing current) round told next current h.told_so k
item kinds round told line next (inr h) k =
    let current = told.current ++ text_entry h.1.text ∷ [] in
    put_in (is_whole kinds told.closing current) round told next current h.1.told_so k

inside : (shape : Shape) (round : ℕ) (told : Told) (line : List ℕ) (next : Told) → TakesInside shape told line next → IsShownFrom round told →
    IsShownFrom round next
inside shape round told line next (inl h) k = item shape.kinds round told line next h k
inside shape round told line next (inr h) k = behind_answer shape round told line next h.1 k

-- behind each line that a part takes
takes_at : (place : Place) (query : List ℕ) (shape : Shape) (round : ℕ) (told : Told) (line : List ℕ) (next : Told) →
    TakesAt place query shape told line next → IsShownFrom round told → IsShownFrom round next
takes_at Query query shape round told line next h k = placed round told next Opened h.opened k
takes_at Opened query shape round told line next (inl h) k = placed round told next Round h.passed k
takes_at Opened query shape round told line next (inr h) k = goes_on shape round told next line (inl h) k
takes_at Round query shape round told line next (inl h) k = goes_on shape round told next line h k
takes_at Round query shape round told line next (inr h) k = same_shown round told next h.1.same k
takes_at Group query shape round told line next (inl h) k = between shape round told next line h k
takes_at Group query shape round told line next (inr h) k = same_shown round told next h.1.passes.same k
takes_at Items query shape round told line next h k = inside shape round told line next h k
takes_at Row query shape round told line next h k = lists_row shape round told next line h k
takes_at (Ended end) query shape round told line next h k = absurd h

-- ---- all parts

told_of_shown : (round : ℕ) (tag : List ℕ) (parts : List Told) → 0 < length tag → AreShownFrom round parts → IsShownFrom round (told_of tag parts)
told_of_shown round tag [] some h = nothing_shown round tag some
told_of_shown round tag (part ∷ parts) some h =
    elim (against tag part) as (λ (o : Ordering). IsShownFrom round (by_order o (told_of tag parts) part (nothing_told tag))) [
      | Less ↦ told_of_shown round tag parts some (All-tail (IsShownFrom round) part parts h)
      | Equal ↦ All-head (IsShownFrom round) part parts h
      | Greater ↦ nothing_shown round tag some
    ]

with_part_shown : (round : ℕ) (told : Told) (parts : List Told) → IsShownFrom round told → AreShownFrom round parts →
    AreShownFrom round (with_part told parts)
with_part_shown round told [] one h = All-cons (IsShownFrom round) told [] one (All-nil (IsShownFrom round))
with_part_shown round told (part ∷ parts) one h =
    let head = All-head (IsShownFrom round) part parts h in
    let tail = All-tail (IsShownFrom round) part parts h in
    elim (against told.tag part)
    as (λ (o : Ordering). AreShownFrom round (by_order o (part ∷ with_part told parts) (told ∷ parts) (told ∷ part ∷ parts))) [
      | Less ↦ All-cons (IsShownFrom round) part (with_part told parts) head (with_part_shown round told parts one tail)
      | Equal ↦ All-cons (IsShownFrom round) told parts one tail
      | Greater ↦ All-cons (IsShownFrom round) told (part ∷ parts) one h
    ]

-- behind each line of the input that is taken
pub tagged_shown : (query : List ℕ) (shape : Shape) (round : ℕ) (parts : List Told) (line : List ℕ) (next : List Told) →
    TakesTagged query shape parts line next → AreShownFrom round parts → AreShownFrom round next
tagged_shown query shape round parts line next h k =
    let before = told_of (tag_of line) parts in
    subst (λ (ps : List Told). AreShownFrom round ps) (sym h.put)
    (with_part_shown round h.told parts
    (takes_at before.place query shape round before (behind_tag line) h.told h.taken (told_of_shown round (tag_of line) parts h.is_tag.0 k)) k)

-- ---- blocks are forgotten

one_passed : (from to : ℕ) (whole told : Told) → TellsFrom to whole told → from ≤ to → IsShownFrom from whole → IsShownFrom to told
one_passed from to whole told h le k = record {
  tag = subst (λ (tag : List ℕ). 0 < length tag) (sym h.tag) k.tag;
  blocks = λ later there.
      subst (λ (b : Block). AreTakenRows (rows_of b)) (sym (h.same later there)) (k.blocks later (omega (arith, le, there)));
  begun = subst (λ (rows : RowsTold). AreTakenRows rows.rows) (sym h.rows) k.begun;
}

-- of parts that tell the same from a round on
pub passed_shown : (from to : ℕ) (wholes parts : List Told) → AllTellFrom to wholes parts → from ≤ to → AreShownFrom from wholes → AreShownFrom to parts
passed_shown from to [] [] h le k = All-nil (IsShownFrom to)
passed_shown from to [] (part ∷ parts) h le k = absurd h
passed_shown from to (whole ∷ wholes) [] h le k = absurd h
passed_shown from to (whole ∷ wholes) (part ∷ parts) h le k =
    All-cons (IsShownFrom to) part parts
    (one_passed from to whole part h.0 le (All-head (IsShownFrom from) whole wholes k))
    (passed_shown from to wholes parts h.1 le (All-tail (IsShownFrom from) whole wholes k))

-- ---- what the parts list

one_of : {X : Type 0} (P : X → Type 0) (xs : List X) (x : X) → IsIn x xs → All P xs → P x
one_of P [] x i h = absurd i
one_of P (y ∷ ys) x (inl e) h = subst P (sym e) (All-head P y ys h)
one_of P (y ∷ ys) x (inr i) h = one_of P ys x i (All-tail P y ys h)

-- the part shows each row that it lists in that round
abbrev IsShownListing : PartListing → Type 0
IsShownListing part = (0 < length part.tag) × AreTakenRows part.rows

each_listing : (round : ℕ) (parts : List Told) → AreShownFrom round parts → All IsShownListing (all_listed_in round parts)
each_listing round [] h = All-nil IsShownListing
each_listing round (part ∷ parts) h =
    let one = All-head (IsShownFrom round) part parts h in
    All-cons IsShownListing (listed_in round part) (all_listed_in round parts) (one.tag, one.blocks round (omega arith))
    (each_listing round parts (All-tail (IsShownFrom round) part parts h))

pub shown_here : (round : ℕ) (parts : List Told) → AreShownFrom round parts → AreShownParts (all_listed_in round parts)
shown_here round parts h =
    let all = all_listed_in round parts in
    let each = each_listing round parts h in
    record {
      tags = λ part i. (one_of IsShownListing all part i each).0;
      lines = λ part i line j. one_of IsShownRow part.rows line j (one_of IsShownListing all part i each).1.shown;
    }

-- the lines of each part rise
pub rising_here : (round : ℕ) (parts : List Told) → AreShownFrom round parts → (part : PartListing) → IsIn part (all_listed_in round parts) →
    AreRisingLines part.rows
rising_here round parts h part i = (one_of IsShownListing (all_listed_in round parts) part i (each_listing round parts h)).1.rising
