-- That each group of which parts tell has a key, whatever lines come.
use Rattle.std.proofs.Common.{◌≡◌, ℕ, ◌-◌, ◌≤◌, min, Bool, true, false, Option, Some, None, List, [], ◌∷◌, ◌++◌, length, set, get_or, if◌then◌else◌, sym, subst, inl, inr, arith, All}
use Rattle.std.proofs.lemmas.List.Elements.{All-cons, All-head, All-nil, All-push, All-tail}
use Rattle.std.specs.declared.cmp.Ordering.{Ordering}
use Rattle.std.specs.declared.cmp.Ordering.TheVariants.{Less, Equal, Greater}
use Rattle.report_text.specs.declared.groups.GroupLine.{GroupLine}
use Rattle.part_groups.specs.Whole.{AreKeyed, IsKeyed}
use Rattle.part_groups.specs.declared.group.Group.{Group as GroupTold}
use Rattle.query_model.specs.declared.query.ItemKind.{ItemKind}
use Rattle.report_parts.proofs.Pushed.{at_later}
use Rattle.report_parts.specs.Blocks.{groups_of, no_block}
use Rattle.report_parts.specs.Entries.{answers_of, last_entry, no_answer}
use Rattle.report_parts.specs.Texts.{group_texts}
use Rattle.report_parts.specs.Keyed.{AreKeyedFrom, IsBegunKeyed, IsKeyedFrom}
use Rattle.report_parts.specs.Passed.{AllTellFrom, TellsFrom}
use Rattle.report_parts.specs.Rounds.{all_groups_in, groups_in}
use Rattle.report_parts.specs.Tags.{TakesTagged, against, behind_tag, by_order, tag_of, told_of, with_part}
use Rattle.report_parts.specs.Told.{BeginsGroup, GoesOn, GroupsGoOn, ListsRow, RowsGoOn, Takes, TakesAt, TakesBehindAnswer, TakesInside, TakesRest, Told, at_place, block_done, closed, closed_by, completed, completed_by, is_whole, nothing_told, opened_by, rows_done, with_current, with_group, with_rows, TakesItem, entry_of, extended, text_entry}
use Rattle.report_parts.specs.declared.block.Block.{Block}
use Rattle.report_parts.specs.declared.block.Block.TheVariants.{Groups, Rows, Totals}
use Rattle.report_parts.specs.declared.entry.Entry.{Entry}
use Rattle.report_parts.specs.declared.part.Place.{Place}
use Rattle.report_parts.specs.declared.part.Place.TheVariants.{Query, Opened, Round, Group, Items, Row, Ended}
use Rattle.report_parts.specs.declared.shape.Shape.{Shape}

-- ---- a block more

block_more : (columns round : ℕ) (told : Told) (block : Block) → IsKeyedFrom columns round told → All (IsKeyed columns) (groups_of block) →
    (later : ℕ) → round ≤ later →
    All (IsKeyed columns) (groups_of (get_or (told.blocks ++ block ∷ []) (min later (length (told.blocks ++ block ∷ []) - 1)) no_block))
block_more columns round told block h k later le = at_later (λ b. All (IsKeyed columns) (groups_of b)) later told.blocks block (h.blocks later le) k

-- ---- the ways to go on

-- before the first line
pub nothing_keyed : (columns round : ℕ) (tag : List ℕ) → IsKeyedFrom columns round (nothing_told tag)
nothing_keyed columns round tag = record { blocks = λ later le. All-nil (IsKeyed columns); sections = All-nil (IsKeyed columns); begun = tt }

same_keyed : (columns round : ℕ) (told next : Told) → next ≡ told → IsKeyedFrom columns round told → IsKeyedFrom columns round next
same_keyed columns round told next e h = subst (λ (t : Told). IsKeyedFrom columns round t) (sym e) h

placed : (columns round : ℕ) (told next : Told) (place : Place) → next ≡ at_place told place → IsKeyedFrom columns round told → IsKeyedFrom columns round next
placed columns round told next place e h =
    same_keyed columns round (at_place told place) next e (record { blocks = h.blocks; sections = h.sections; begun = h.begun })

-- the block of totals is whole, or the section of the group
closed_keyed : (columns round : ℕ) (group : Option GroupLine) (told : Told) → IsBegunKeyed columns group → IsKeyedFrom columns round told →
    IsKeyedFrom columns round (closed_by group told)
closed_keyed columns round None told begun h = record {
  blocks = block_more columns round told (Totals told.current) h (All-nil (IsKeyed columns));
  sections = h.sections;
  begun = tt;
}
closed_keyed columns round (Some group) told begun h = record {
  blocks = h.blocks;
  sections =
      All-push (IsKeyed columns) told.sections (record { line = group; answers = answers_of told.current; texts = group_texts told.current }) h.sections
      (record { shown = begun.shown; key = begun.key; columns = begun.columns });
  begun = tt;
}

done_keyed : (columns round : ℕ) (told : Told) → IsKeyedFrom columns round told → IsKeyedFrom columns round (block_done told)
done_keyed columns round told h = record {
  blocks = block_more columns round told (Groups told.sections) h h.sections;
  sections = All-nil (IsKeyed columns);
  begun = h.begun;
}

completed_keyed : (columns round : ℕ) (group : Option GroupLine) (told : Told) → IsBegunKeyed columns group → IsKeyedFrom columns round told →
    IsKeyedFrom columns round (completed_by group told)
completed_keyed columns round None told begun h = closed_keyed columns round None told begun h
completed_keyed columns round (Some group) told begun h =
    done_keyed columns round (closed_by (Some group) told) (closed_keyed columns round (Some group) told begun h)

put_in : (whole : Bool) (columns round : ℕ) (told next : Told) (current : List Entry) →
    next ≡ (if whole then closed (with_current told current) else at_place (with_current told current) Items) → IsKeyedFrom columns round told →
    IsKeyedFrom columns round next
put_in true columns round told next current e h =
    same_keyed columns round (closed (with_current told current)) next e
    (closed_keyed columns round told.group (with_current told current) h.begun (record { blocks = h.blocks; sections = h.sections; begun = h.begun }))
put_in false columns round told next current e h =
    placed columns round (with_current told current) next Items e (record { blocks = h.blocks; sections = h.sections; begun = h.begun })

goes_on : (shape : Shape) (round : ℕ) (told next : Told) (line : List ℕ) → GoesOn shape told line next → IsKeyedFrom shape.columns round told →
    IsKeyedFrom shape.columns round next
goes_on shape round told next line (inl h) k = placed shape.columns round told next (opened_by shape) h.begun k
goes_on shape round told next line (inr h) k = placed shape.columns round told next (Ended h.end) h.ended k

begins_group : (columns round : ℕ) (told next : Told) (line : List ℕ) → BeginsGroup columns told line next → IsKeyedFrom columns round told →
    IsKeyedFrom columns round next
begins_group columns round told next line h k =
    same_keyed columns round (with_group told h.group) next h.begun
    (record { blocks = k.blocks; sections = k.sections; begun = record { shown = h.shown; key = h.key; columns = h.each } })

closes : (shape : Shape) (round : ℕ) (told next : Told) (line : List ℕ) → GroupsGoOn shape (closed told) (completed told) line next →
    IsKeyedFrom shape.columns round told → IsKeyedFrom shape.columns round next
closes shape round told next line (inl h) k =
    begins_group shape.columns round (closed told) next line h (closed_keyed shape.columns round told.group told k.begun k)
closes shape round told next line (inr h) k =
    goes_on shape round (completed told) next line h (completed_keyed shape.columns round told.group told k.begun k)

between : (shape : Shape) (round : ℕ) (told next : Told) (line : List ℕ) → GroupsGoOn shape told (block_done told) line next →
    IsKeyedFrom shape.columns round told → IsKeyedFrom shape.columns round next
between shape round told next line (inl h) k = begins_group shape.columns round told next line h k
between shape round told next line (inr h) k = goes_on shape round (block_done told) next line h (done_keyed shape.columns round told k)

lists_row : (shape : Shape) (round : ℕ) (told next : Told) (line : List ℕ) → ListsRow shape told line next → IsKeyedFrom shape.columns round told →
    IsKeyedFrom shape.columns round next
lists_row shape round told next line h k = by h.goes_on
  where
    by : RowsGoOn (with_rows told h.rows) next → IsKeyedFrom shape.columns round next
    by (inl g) = same_keyed shape.columns round (rows_done (with_rows told h.rows)) next g.1 (record {
      blocks = block_more shape.columns round told (Rows h.rows) k (All-nil (IsKeyed shape.columns));
      sections = k.sections;
      begun = k.begun;
    })
    by (inr g) = same_keyed shape.columns round (with_rows told h.rows) next g.1 (record { blocks = k.blocks; sections = k.sections; begun = k.begun })

rest : (shape : Shape) (round : ℕ) (told : Told) (line : List ℕ) (next : Told) → TakesRest shape told line next →
    IsKeyedFrom shape.columns round told → IsKeyedFrom shape.columns round next
rest shape round told line next (inl h) k = same_keyed shape.columns round told next h.same k
rest shape round told line next (inr h) k = closes shape round told next line h.1.goes_on k

behind_answer : (shape : Shape) (round : ℕ) (told : Told) (line : List ℕ) (next : Told) → TakesBehindAnswer shape told line next →
    IsKeyedFrom shape.columns round told → IsKeyedFrom shape.columns round next
behind_answer shape round told line next (inl (inl h)) k =
    let current = set told.current (length told.current - 1) (extended (last_entry told.current) h.extra None) in
    put_in (is_whole shape.kinds told.closing current) shape.columns round told next current h.told_so k
behind_answer shape round told line next (inl (inr h)) k =
    let current = set told.current (length told.current - 1) (extended (last_entry told.current) no_answer (Some h.1.clip)) in
    put_in (is_whole shape.kinds told.closing current) shape.columns round told next current h.1.told_so k
behind_answer shape round told line next (inr h) k = rest shape round told line next h.1 k

item : (kinds : List ItemKind) (columns round : ℕ) (told : Told) (line : List ℕ) (next : Told) → TakesItem kinds told line next →
    IsKeyedFrom columns round told → IsKeyedFrom columns round next
item kinds columns round told line next (inl h) k =
    let current = told.current ++ entry_of h.answer ∷ [] in
    put_in (is_whole kinds told.closing current) columns round told next current h.told_so k
item kinds columns round told line next (inr h) k =
    let current = told.current ++ text_entry h.1.text ∷ [] in
    put_in (is_whole kinds told.closing current) columns round told next current h.1.told_so k

inside : (shape : Shape) (round : ℕ) (told : Told) (line : List ℕ) (next : Told) → TakesInside shape told line next →
    IsKeyedFrom shape.columns round told → IsKeyedFrom shape.columns round next
inside shape round told line next (inl h) k = item shape.kinds shape.columns round told line next h k
inside shape round told line next (inr h) k = behind_answer shape round told line next h.1 k

takes_at : (place : Place) (query : List ℕ) (shape : Shape) (round : ℕ) (told : Told) (line : List ℕ) (next : Told) →
    TakesAt place query shape told line next → IsKeyedFrom shape.columns round told → IsKeyedFrom shape.columns round next
takes_at Query query shape round told line next h k = placed shape.columns round told next Opened h.opened k
takes_at Opened query shape round told line next (inl h) k = placed shape.columns round told next Round h.passed k
takes_at Opened query shape round told line next (inr h) k = goes_on shape round told next line (inl h) k
takes_at Round query shape round told line next (inl h) k = goes_on shape round told next line h k
takes_at Round query shape round told line next (inr h) k = same_keyed shape.columns round told next h.1.same k
takes_at Group query shape round told line next (inl h) k = between shape round told next line h k
takes_at Group query shape round told line next (inr h) k = same_keyed shape.columns round told next h.1.passes.same k
takes_at Items query shape round told line next h k = inside shape round told line next h k
takes_at Row query shape round told line next h k = lists_row shape round told next line h k
takes_at (Ended end) query shape round told line next h k = absurd h

-- behind each line that a part takes
pub takes_keyed : (query : List ℕ) (shape : Shape) (round : ℕ) (told : Told) (line : List ℕ) (next : Told) → Takes query shape told line next →
    IsKeyedFrom shape.columns round told → IsKeyedFrom shape.columns round next
takes_keyed query shape round told line next h k = takes_at told.place query shape round told line next h k

-- ---- all parts

told_of_keyed : (columns round : ℕ) (tag : List ℕ) (parts : List Told) → AreKeyedFrom columns round parts →
    IsKeyedFrom columns round (told_of tag parts)
told_of_keyed columns round tag [] h = nothing_keyed columns round tag
told_of_keyed columns round tag (part ∷ parts) h =
    elim (against tag part) as (λ (o : Ordering). IsKeyedFrom columns round (by_order o (told_of tag parts) part (nothing_told tag))) [
      | Less ↦ told_of_keyed columns round tag parts (All-tail (IsKeyedFrom columns round) part parts h)
      | Equal ↦ All-head (IsKeyedFrom columns round) part parts h
      | Greater ↦ nothing_keyed columns round tag
    ]

with_part_keyed : (columns round : ℕ) (told : Told) (parts : List Told) → IsKeyedFrom columns round told → AreKeyedFrom columns round parts →
    AreKeyedFrom columns round (with_part told parts)
with_part_keyed columns round told [] one h = All-cons (IsKeyedFrom columns round) told [] one h
with_part_keyed columns round told (part ∷ parts) one h =
    let head = All-head (IsKeyedFrom columns round) part parts h in
    let tail = All-tail (IsKeyedFrom columns round) part parts h in
    elim (against told.tag part)
    as (λ (o : Ordering). AreKeyedFrom columns round (by_order o (part ∷ with_part told parts) (told ∷ parts) (told ∷ part ∷ parts))) [
      | Less ↦ All-cons (IsKeyedFrom columns round) part (with_part told parts) head (with_part_keyed columns round told parts one tail)
      | Equal ↦ All-cons (IsKeyedFrom columns round) told parts one tail
      | Greater ↦ All-cons (IsKeyedFrom columns round) told (part ∷ parts) one h
    ]

-- behind each line of the input that is taken
pub tagged_keyed : (query : List ℕ) (shape : Shape) (round : ℕ) (parts : List Told) (line : List ℕ) (next : List Told) →
    TakesTagged query shape parts line next → AreKeyedFrom shape.columns round parts → AreKeyedFrom shape.columns round next
tagged_keyed query shape round parts line next h k =
    subst (λ (ps : List Told). AreKeyedFrom shape.columns round ps) (sym h.put)
    (with_part_keyed shape.columns round h.told parts
    (takes_keyed query shape round (told_of (tag_of line) parts) (behind_tag line) h.told h.taken
    (told_of_keyed shape.columns round (tag_of line) parts k)) k)

-- ---- blocks are forgotten

one_passed : (columns from to : ℕ) (whole told : Told) → TellsFrom to whole told → from ≤ to → IsKeyedFrom columns from whole →
    IsKeyedFrom columns to told
one_passed columns from to whole told h le k = record {
  blocks = λ later there.
      subst (λ (b : Block). All (IsKeyed columns) (groups_of b)) (sym (h.same later there)) (k.blocks later (omega (arith, le, there)));
  sections = subst (λ (sections : List GroupTold). All (IsKeyed columns) sections) (sym h.sections) k.sections;
  begun = subst (λ (group : Option GroupLine). IsBegunKeyed columns group) (sym h.group) k.begun;
}

-- of parts that tell the same from a round on
pub passed_keyed : (columns from to : ℕ) (wholes parts : List Told) → AllTellFrom to wholes parts → from ≤ to → AreKeyedFrom columns from wholes →
    AreKeyedFrom columns to parts
passed_keyed columns from to [] [] h le k = All-nil (IsKeyedFrom columns to)
passed_keyed columns from to [] (part ∷ parts) h le k = absurd h
passed_keyed columns from to (whole ∷ wholes) [] h le k = absurd h
passed_keyed columns from to (whole ∷ wholes) (part ∷ parts) h le k =
    All-cons (IsKeyedFrom columns to) part parts
    (one_passed columns from to whole part h.0 le (All-head (IsKeyedFrom columns from) whole wholes k))
    (passed_keyed columns from to wholes parts h.1 le (All-tail (IsKeyedFrom columns from) whole wholes k))

-- what the parts say of groups in a round has keys
pub keyed_here : (columns round : ℕ) (parts : List Told) → AreKeyedFrom columns round parts → AreKeyed columns (all_groups_in round parts)
keyed_here columns round [] h = All-nil (λ groups. All (IsKeyed columns) groups)
keyed_here columns round (part ∷ parts) h =
    All-cons (λ groups. All (IsKeyed columns) groups) (groups_in round part) (all_groups_in round parts)
    ((All-head (IsKeyedFrom columns round) part parts h).blocks round (omega arith))
    (keyed_here columns round parts (All-tail (IsKeyedFrom columns round) part parts h))
