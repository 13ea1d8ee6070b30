-- That a part of which the passed blocks are forgotten goes on as the whole report does, and says the same in each round behind them.
use Rattle.std.proofs.Common.{◌≡◌, ◌⊎◌, ℕ, zero, suc, ◌+◌, ◌-◌, ◌<◌, ◌≤◌, min, Bool, true, false, Option, Some, None, slice_get, List, [], ◌∷◌, ◌++◌, length, map, set, remove, get_or, if◌then◌else◌, refl, sym, ap, subst, ◌∙◌, inl, inr, arith, replicate, length-append, take, drop}
use Rattle.std.proofs.Math.Seq.{get_or-append_seam, take-append_seam}
use Rattle.std.proofs.Math.ListN.{get_or-eq_default}
use Rattle.std.proofs.lemmas.List.{get_or-append_right, get_or-replicate, get_or_append_left, length-replicate}
use Rattle.std.specs.Cmp.Lexicographic.{slice_cmp}
use Rattle.std.specs.List.{Contains, list_all}
use Rattle.std.specs.List.Sorted.{IsStrictlySortedBy}
use Rattle.std.specs.Ordering.{nat_cmp}
use Rattle.std.specs.declared.cmp.Ordering.{Ordering}
use Rattle.std.specs.declared.cmp.Ordering.TheVariants.{Less, Equal, Greater}
use Rattle.query_model.specs.declared.query.ItemKind.{ItemKind}
use Rattle.query_model.specs.declared.query.ItemKind.TheVariants.{Avg}
use Rattle.report_text.specs.Extras.{IsRowsLine, extra_line}
use Rattle.report_text.specs.Lines.{IsRoundLine, item_line}
use Rattle.report_text.specs.TextAnswers.{text_item_line}
use Rattle.report_parts.specs.Texts.{group_texts, is_extreme, text_clip_line}
use Rattle.report_text.specs.RowBlocks.{LacksPossible, RowsTold, TakesRows}
use Rattle.report_text.specs.declared.groups.GroupLine.{GroupLine}
use Rattle.report_parts.proofs.Said.{fault_as, said_as}
use Rattle.report_parts.specs.Ends.{end_of_all, ends_narrow}
use Rattle.report_parts.specs.Faults.{CanSay, IsBlockFault}
use Rattle.report_parts.specs.Passed.{AllTellFrom, TellsFrom}
use Rattle.part_groups.specs.Whole.{groups_over}
use Rattle.report_parts.specs.Blocks.{groups_of, entries_of, is_skipped, no_block, rows_of}
use Rattle.report_parts.specs.Entries.{answers_of, ends_with_extra, last_entry, no_answer, no_entry}
use Rattle.report_parts.specs.Reports.{block_beside, block_by, block_over, entries_over}
use Rattle.query_kinds.specs.declared.rows.FirstRows.{FirstRows}
use Rattle.part_rows.specs.Combined.{PartListing, combined, told_by}
use Rattle.report_parts.specs.Rounds.{all_groups_in, all_listed_in, block_for, groups_in, entries_in, entry_in, has_block, is_over, listed_in}
use Rattle.report_parts.specs.Tags.{AreInOrder, CannotTake, HasPart, IsLineRefused, IsOneMore, IsRefused, TakesTagged, against, behind_tag, by_order, tag_of, told_of, with_part}
use Rattle.report_parts.specs.Told.{Answers, BeginsGroup, ClipsText, Closes, Extends, GoesOn, GroupsGoOn, IsUnlisted, ListsRow, OrElse, PassesBehind, PassesBehindSection, PassesInside, RowsGoOn, Takes, TakesAt, TakesBehind, TakesBehindAnswer, TakesBetween, TakesExtra, TakesInside, TakesRest, Told, at_place, block_done, closed, closed_by, completed, completed_by, is_whole, nothing_told, opened_by, rows_done, settled, with_current, with_extra, with_group, with_rows, TakesItem, TellsText, entry_of, extended, text_entry, with_entry}
use Rattle.report_parts.specs.declared.block.Block.{Block}
use Rattle.report_parts.specs.declared.block.Block.TheVariants.{Groups, Rows, Totals}
use Rattle.part_groups.specs.declared.group.Group.{Group as GroupTold}
use Rattle.report_parts.specs.declared.closing.Closing.{Closing}
use Rattle.report_parts.specs.declared.entry.Entry.{Entry}
use Rattle.report_parts.specs.declared.fault.BlockFault.{BlockFault}
use Rattle.report_parts.specs.declared.fault.InputFault.{InputFault}
use Rattle.report_parts.specs.declared.fault.InputFault.TheVariants.{Line, NoTab, NoTag, OtherPart}
use Rattle.report_parts.specs.declared.fault.LineFault.{LineFault}
use Rattle.report_parts.specs.declared.fault.LineFault.TheVariants.{NoMemory, OtherLine, OtherQuery, Unlisted}
use Rattle.report_parts.specs.declared.part.Place.{Place}
use Rattle.report_parts.specs.declared.part.Place.TheVariants.{Query, Opened, Round, Group, Items, Row, Ended}
use Rattle.report_parts.specs.declared.shape.Shape.{Shape}

-- ---- the same from a round on

pub tells_here : (round : ℕ) (told : Told) → TellsFrom round told told
tells_here round told = record { tag = refl; closing = refl; sections = refl; group = refl; current = refl; rows = refl; place = refl; count = refl; same = λ later from. refl }

pub tells_back : (round : ℕ) (whole told : Told) → TellsFrom round whole told → TellsFrom round told whole
tells_back round whole told h =
    record {
      tag = sym h.tag;
      closing = sym h.closing;
      sections = sym h.sections;
      group = sym h.group;
      current = sym h.current;
      rows = sym h.rows;
      place = sym h.place;
      count = sym h.count;
      same = λ later from. sym (h.same later from);
    }

pub tells_both : (from to : ℕ) (whole told next : Told) → from ≤ to → TellsFrom from whole told → TellsFrom to told next → TellsFrom to whole next
tells_both from to whole told next le h k = record {
  tag = k.tag ∙ h.tag;
  closing = k.closing ∙ h.closing;
  sections = k.sections ∙ h.sections;
  group = k.group ∙ h.group;
  current = k.current ∙ h.current;
  rows = k.rows ∙ h.rows;
  place = k.place ∙ h.place;
  count = k.count ∙ h.count;
  same = λ later there. k.same later there ∙ h.same later (omega (arith, le, there));
}

pub all_both : (from to : ℕ) (wholes parts nexts : List Told) → from ≤ to → AllTellFrom from wholes parts → AllTellFrom to parts nexts → AllTellFrom to wholes nexts
all_both from to [] [] [] le h k = tt
all_both from to [] [] (next ∷ nexts) le h k = absurd k
all_both from to [] (part ∷ parts) nexts le h k = absurd h
all_both from to (whole ∷ wholes) [] nexts le h k = absurd h
all_both from to (whole ∷ wholes) (part ∷ parts) [] le h k = absurd k
all_both from to (whole ∷ wholes) (part ∷ parts) (next ∷ nexts) le h k =
    (tells_both from to whole part next le h.0 k.0, all_both from to wholes parts nexts le h.1 k.1)

pub all_back : (round : ℕ) (wholes parts : List Told) → AllTellFrom round wholes parts → AllTellFrom round parts wholes
all_back round [] [] h = tt
all_back round [] (part ∷ parts) h = absurd h
all_back round (whole ∷ wholes) [] h = absurd h
all_back round (whole ∷ wholes) (part ∷ parts) h = (tells_back round whole part h.0, all_back round wholes parts h.1)

pub same_count : (round : ℕ) (wholes parts : List Told) → AllTellFrom round wholes parts → length parts ≡ length wholes
same_count round [] [] h = refl
same_count round [] (part ∷ parts) h = absurd h
same_count round (whole ∷ wholes) [] h = absurd h
same_count round (whole ∷ wholes) (part ∷ parts) h = let rest = same_count round wholes parts h.1 in omega (arith, rest)

-- ---- what they say in a round

pub same_has : (from round : ℕ) (wholes parts : List Told) → AllTellFrom from wholes parts → list_all (has_block round) parts ≡ list_all (has_block round) wholes
same_has from round [] [] h = refl
same_has from round [] (part ∷ parts) h = absurd h
same_has from round (whole ∷ wholes) [] h = absurd h
same_has from round (whole ∷ wholes) (part ∷ parts) h = rw (h.0.place, h.0.count, same_has from round wholes parts h.1) refl

pub same_over_all : (from round : ℕ) (wholes parts : List Told) → AllTellFrom from wholes parts → list_all (is_over round) parts ≡ list_all (is_over round) wholes
same_over_all from round [] [] h = refl
same_over_all from round [] (part ∷ parts) h = absurd h
same_over_all from round (whole ∷ wholes) [] h = absurd h
same_over_all from round (whole ∷ wholes) (part ∷ parts) h = rw (h.0.place, h.0.count, same_over_all from round wholes parts h.1) refl

same_narrow : (from : ℕ) (wholes parts : List Told) → AllTellFrom from wholes parts →
    list_all (λ (part : Told). ends_narrow part.place) parts ≡ list_all (λ (part : Told). ends_narrow part.place) wholes
same_narrow from [] [] h = refl
same_narrow from [] (part ∷ parts) h = absurd h
same_narrow from (whole ∷ wholes) [] h = absurd h
same_narrow from (whole ∷ wholes) (part ∷ parts) h = rw (h.0.place, same_narrow from wholes parts h.1) refl

pub same_end_of_all : (from : ℕ) (wholes parts : List Told) → AllTellFrom from wholes parts → end_of_all parts ≡ end_of_all wholes
same_end_of_all from wholes parts h = rw (same_narrow from wholes parts h) refl

same_in : (from round item : ℕ) (wholes parts : List Told) → from ≤ round → AllTellFrom from wholes parts → entries_in round item parts ≡ entries_in round item wholes
same_in from round item [] [] le h = refl
same_in from round item [] (part ∷ parts) le h = absurd h
same_in from round item (whole ∷ wholes) [] le h = absurd h
same_in from round item (whole ∷ wholes) (part ∷ parts) le h =
    let one : entry_in round item part ≡ entry_in round item whole = ap (λ (block : Block). get_or (entries_of block) item no_entry) (h.0.same round le) in
    rw (one, same_in from round item wholes parts le h.1) refl

pub same_entries_over : (from round item : ℕ) (kinds : List ItemKind) (wholes parts : List Told) → from ≤ round → AllTellFrom from wholes parts →
    entries_over round item kinds parts ≡ entries_over round item kinds wholes
same_entries_over from round item [] wholes parts le h = refl
same_entries_over from round item (kind ∷ kinds) wholes parts le h =
    rw (same_in from round item wholes parts le h, same_entries_over from round (item + 1) kinds wholes parts le h) refl

pub same_groups : (from round : ℕ) (wholes parts : List Told) → from ≤ round → AllTellFrom from wholes parts → all_groups_in round parts ≡ all_groups_in round wholes
same_groups from round [] [] le h = refl
same_groups from round [] (part ∷ parts) le h = absurd h
same_groups from round (whole ∷ wholes) [] le h = absurd h
same_groups from round (whole ∷ wholes) (part ∷ parts) le h =
    let one : groups_in round part ≡ groups_in round whole = ap groups_of (h.0.same round le) in
    rw (one, same_groups from round wholes parts le h.1) refl

pub same_listed : (from round : ℕ) (wholes parts : List Told) → from ≤ round → AllTellFrom from wholes parts → all_listed_in round parts ≡ all_listed_in round wholes
same_listed from round [] [] le h = refl
same_listed from round [] (part ∷ parts) le h = absurd h
same_listed from round (whole ∷ wholes) [] le h = absurd h
same_listed from round (whole ∷ wholes) (part ∷ parts) le h =
    let rows : rows_of (block_for round part) ≡ rows_of (block_for round whole) = ap rows_of (h.0.same round le) in
    let skipped : is_skipped (block_for round part) ≡ is_skipped (block_for round whole) = ap is_skipped (h.0.same round le) in
    let one : listed_in round part ≡ listed_in round whole = λ i. record { tag = h.0.tag i; skipped = skipped i; rows = rows i } in
    rw (one, same_listed from round wholes parts le h.1) refl

same_block_by : (asked : Option FirstRows) (from round columns : ℕ) (kinds : List ItemKind) (wholes parts : List Told) → from ≤ round →
    AllTellFrom from wholes parts → block_by columns asked round kinds parts ≡ block_by columns asked round kinds wholes
same_block_by (Some asked) from round zero kinds wholes parts le h =
    ap (λ (all : List PartListing). Rows (told_by (combined asked all))) (same_listed from round wholes parts le h)
same_block_by None from round zero kinds wholes parts le h = ap (λ (entries : List Entry). Totals entries) (same_entries_over from round 0 kinds wholes parts le h)
same_block_by asked from round (suc columns) kinds wholes parts le h =
    ap (λ (all : List (List GroupTold)). Groups (groups_over (suc columns) kinds all)) (same_groups from round wholes parts le h)

pub same_block_over : (from round : ℕ) (shape : Shape) (wholes parts : List Told) → from ≤ round → AllTellFrom from wholes parts →
    block_over round shape parts ≡ block_over round shape wholes
same_block_over from round shape wholes parts le h = ap (block_beside shape.besides) (same_block_by shape.rows from round shape.columns shape.kinds wholes parts le h)

-- ---- a line more

moved_too : (round : ℕ) (whole told next : Told) (place : Place) → TellsFrom round whole told → next ≡ at_place told place →
    TellsFrom round (at_place whole place) next
moved_too round whole told next place h e =
    subst (λ (t : Told). TellsFrom round (at_place whole place) t) (sym e)
    (record { tag = h.tag; closing = h.closing; sections = h.sections; group = h.group; current = h.current; rows = h.rows; place = refl; count = h.count; same = h.same })

pub cases_lt : (a b : ℕ) → (a < b) ⊎ (b ≤ a)
cases_lt a b = grind arith

-- the block for a round once there is one more
last_or : (round later : ℕ) (whole told : List Block) (block : Block) → length told ≡ length whole → round ≤ later →
    ((there : ℕ) → round ≤ there → get_or told (min there (length told - 1)) no_block ≡ get_or whole (min there (length whole - 1)) no_block) →
    get_or (told ++ block ∷ []) (min later (length (told ++ block ∷ []) - 1)) no_block ≡ get_or (whole ++ block ∷ []) (min later (length (whole ++ block ∷ []) - 1)) no_block
last_or round later whole told block count le same =
    let longer : length (told ++ block ∷ []) ≡ length told + 1 = length-append told (block ∷ []) in
    let wholly : length (whole ++ block ∷ []) ≡ length whole + 1 = length-append whole (block ∷ []) in
    elim (cases_lt later (length told)) [
      | inl below ↦
          let a : min later (length (told ++ block ∷ []) - 1) ≡ later = omega (arith, below, longer) in
          let b : min later (length (whole ++ block ∷ []) - 1) ≡ later = omega (arith, below, wholly, count) in
          let c : min later (length told - 1) ≡ later = omega (arith, below) in
          let d : min later (length whole - 1) ≡ later = omega (arith, below, count) in
          ap (λ (k : ℕ). get_or (told ++ block ∷ []) k no_block) a
          ∙ get_or_append_left told (block ∷ []) no_block later below
          ∙ sym (ap (λ (k : ℕ). get_or told k no_block) c)
          ∙ same later le
          ∙ ap (λ (k : ℕ). get_or whole k no_block) d
          ∙ sym (get_or_append_left whole (block ∷ []) no_block later (omega (arith, below, count)))
          ∙ sym (ap (λ (k : ℕ). get_or (whole ++ block ∷ []) k no_block) b)
      | inr above ↦
          let a : min later (length (told ++ block ∷ []) - 1) ≡ length told = omega (arith, above, longer) in
          let b : min later (length (whole ++ block ∷ []) - 1) ≡ length whole = omega (arith, above, wholly, count) in
          ap (λ (k : ℕ). get_or (told ++ block ∷ []) k no_block) a
          ∙ get_or-append_seam told block [] no_block
          ∙ sym (get_or-append_seam whole block [] no_block)
          ∙ sym (ap (λ (k : ℕ). get_or (whole ++ block ∷ []) k no_block) b)
    ]

one_more : (whole told : List Block) (block : Block) → length told ≡ length whole → length (told ++ block ∷ []) ≡ length (whole ++ block ∷ [])
one_more whole told block e = length-append told (block ∷ []) ∙ ap (λ (n : ℕ). n + 1) e ∙ sym (length-append whole (block ∷ []))

-- so is what they tell once a block or a section is whole
abbrev Keeps : ℕ → (Told → Told) → Type 0
Keeps round next = (whole told : Told) → TellsFrom round whole told → TellsFrom round (next whole) (next told)

-- the block or the section that was begun
closed_by_too : (group : Option GroupLine) (round : ℕ) (current : List Entry) (whole told : Told) → TellsFrom round whole told →
    TellsFrom round (closed_by group (with_current whole current)) (closed_by group (with_current told current))
closed_by_too None round current whole told h = record {
  tag = h.tag;
  closing = refl;
  sections = h.sections;
  group = refl;
  current = refl;
  rows = h.rows;
  place = refl;
  count = one_more whole.blocks told.blocks (Totals current) h.count;
  same = λ later le. last_or round later whole.blocks told.blocks (Totals current) h.count le h.same;
}
closed_by_too (Some group) round current whole told h = record {
  tag = h.tag;
  closing = refl;
  sections = ap (λ (sections : List GroupTold). sections ++ record { line = group; answers = answers_of current; texts = group_texts current } ∷ []) h.sections;
  group = refl;
  current = refl;
  rows = h.rows;
  place = refl;
  count = h.count;
  same = h.same;
}

abbrev with_sections : Told → List GroupTold → Told
with_sections told sections = record {
  tag = told.tag;
  blocks = told.blocks;
  closing = told.closing;
  sections = sections;
  group = told.group;
  current = told.current;
  rows = told.rows;
  place = told.place;
}

-- the block of sections
block_done_too : (round : ℕ) → Keeps round block_done
block_done_too round whole told h =
    subst (λ (sections : List GroupTold). TellsFrom round (block_done (with_sections whole sections)) (block_done told)) h.sections (record {
      tag = h.tag;
      closing = h.closing;
      sections = refl;
      group = h.group;
      current = h.current;
      rows = h.rows;
      place = refl;
      count = one_more whole.blocks told.blocks (Groups told.sections) h.count;
      same = λ later le. last_or round later whole.blocks told.blocks (Groups told.sections) h.count le h.same;
    })

completed_by_too : (group : Option GroupLine) (round : ℕ) (current : List Entry) (whole told : Told) → TellsFrom round whole told →
    TellsFrom round (completed_by group (with_current whole current)) (completed_by group (with_current told current))
completed_by_too None round current whole told h = closed_by_too None round current whole told h
completed_by_too (Some group) round current whole told h =
    block_done_too round (closed_by (Some group) (with_current whole current)) (closed_by (Some group) (with_current told current))
    (closed_by_too (Some group) round current whole told h)

closed_too : (round : ℕ) → Keeps round closed
closed_too round whole told h =
    subst (λ (group : Option GroupLine). TellsFrom round (closed_by group whole) (closed told)) h.group
    (subst (λ (current : List Entry). TellsFrom round (closed_by told.group (with_current whole current)) (closed told)) h.current
    (closed_by_too told.group round told.current whole told h))

completed_too : (round : ℕ) → Keeps round completed
completed_too round whole told h =
    subst (λ (group : Option GroupLine). TellsFrom round (completed_by group whole) (completed told)) h.group
    (subst (λ (current : List Entry). TellsFrom round (completed_by told.group (with_current whole current)) (completed told)) h.current
    (completed_by_too told.group round told.current whole told h))

with_current_too : (round : ℕ) (whole told : Told) (current : List Entry) → TellsFrom round whole told →
    TellsFrom round (with_current whole current) (with_current told current)
with_current_too round whole told current h = record {
  tag = h.tag;
  closing = h.closing;
  sections = h.sections;
  group = h.group;
  current = refl;
  rows = h.rows;
  place = h.place;
  count = h.count;
  same = h.same;
}

settled_by : (b : Bool) (round : ℕ) (whole told : Told) → TellsFrom round whole told →
    TellsFrom round (if b then closed whole else at_place whole Items) (if b then closed told else at_place told Items)
settled_by true round whole told h = closed_too round whole told h
settled_by false round whole told h = moved_too round whole told (at_place told Items) Items h refl

settled_too : (round : ℕ) (kinds : List ItemKind) (whole told : Told) → TellsFrom round whole told → TellsFrom round (settled kinds whole) (settled kinds told)
settled_too round kinds whole told h =
    subst (λ (b : Bool). TellsFrom round (if b then closed whole else at_place whole Items) (settled kinds told))
    (ap (λ (closing : Closing). is_whole kinds closing told.current) h.closing ∙ ap (λ (current : List Entry). is_whole kinds whole.closing current) h.current)
    (settled_by (is_whole kinds told.closing told.current) round whole told h)

-- what is put in the block that was begun
put_too : (round : ℕ) (kinds : List ItemKind) (put : List Entry → List Entry) (whole told : Told) → TellsFrom round whole told →
    TellsFrom round (settled kinds (with_current whole (put whole.current))) (settled kinds (with_current told (put told.current)))
put_too round kinds put whole told h =
    subst (λ (current : List Entry). TellsFrom round (settled kinds (with_current whole (put current))) (settled kinds (with_current told (put told.current)))) h.current
    (settled_too round kinds (with_current whole (put told.current)) (with_current told (put told.current)) (with_current_too round whole told (put told.current) h))

-- the whole report goes the same way, and tells the same from the round on
pub record GoesToo (round : ℕ) (whole : Told) (Way : Told → Told → Type 0) (next : Told) : Type 0 where
  pub wholly : Told
  pub taken : Way whole wholly
  pub tells : TellsFrom round wholly next

-- so it is of each report of which that one tells the same
abbrev IsTaken : ℕ → (Told → Told → Type 0) → Type 0
IsTaken round Way = (whole told next : Told) → TellsFrom round whole told → Way told next → GoesToo round whole Way next

or_else : (round : ℕ) (First Second : Told → Told → Type 0) → IsTaken round First → IsTaken round Second →
    IsTaken round (λ told. OrElse (First told) (Second told))
or_else round First Second one two whole told next h (inl k) =
    let g = one whole told next h k in
    record { wholly = g.wholly; taken = inl g.taken; tells = g.tells }
or_else round First Second one two whole told next h (inr k) =
    let g = two whole told next h k.1 in
    record {
      wholly = g.wholly;
      taken = inr (λ other f. k.0 (one told whole other (tells_back round whole told h) f).wholly (one told whole other (tells_back round whole told h) f).taken, g.taken);
      tells = g.tells;
    }

goes_on : (round : ℕ) (shape : Shape) (line : List ℕ) → IsTaken round (λ told next. GoesOn shape told line next)
goes_on round shape line whole told next h (inl k) = record {
  wholly = at_place whole (opened_by shape);
  taken = inl (record { is_round = subst (λ (n : ℕ). IsRoundLine n line) h.count k.is_round; begun = refl });
  tells = moved_too round whole told next (opened_by shape) h k.begun;
}
goes_on round shape line whole told next h (inr k) = record {
  wholly = at_place whole (Ended k.end);
  taken = inr (record { end = k.end; some = subst (λ (n : ℕ). 0 < n) h.count k.some; is_line = k.is_line; ended = refl });
  tells = moved_too round whole told next (Ended k.end) h k.ended;
}

begins_group : (round columns : ℕ) (line : List ℕ) → IsTaken round (λ told next. BeginsGroup columns told line next)
begins_group round columns line whole told next h k = record {
  wholly = with_group whole k.group;
  taken = record { group = k.group; shown = k.shown; key = k.key; each = k.each; is_line = k.is_line; begun = refl };
  tells = subst (λ (t : Told). TellsFrom round (with_group whole k.group) t) (sym k.begun) (record {
    tag = h.tag;
    closing = h.closing;
    sections = h.sections;
    group = refl;
    current = h.current;
    rows = h.rows;
    place = refl;
    count = h.count;
    same = h.same;
  });
}

groups_go_on : (round : ℕ) (shape : Shape) (line : List ℕ) (near far : Told → Told) → Keeps round near → Keeps round far →
    IsTaken round (λ told next. GroupsGoOn shape (near told) (far told) line next)
groups_go_on round shape line near far one two whole told next h (inl k) =
    let g = begins_group round shape.columns line (near whole) (near told) next (one whole told h) k in
    record { wholly = g.wholly; taken = inl g.taken; tells = g.tells }
groups_go_on round shape line near far one two whole told next h (inr k) =
    let g = goes_on round shape line (far whole) (far told) next (two whole told h) k in
    record { wholly = g.wholly; taken = inr g.taken; tells = g.tells }

answers : (round : ℕ) (kinds : List ItemKind) (line : List ℕ) → IsTaken round (λ told next. Answers kinds told line next)
answers round kinds line whole told next h k = record {
  wholly = with_entry kinds whole (entry_of k.answer);
  taken = record {
    kind = k.kind;
    answer = k.answer;
    is_next = record {
      there = subst (λ (current : List Entry). slice_get kinds (length current) ≡ Some k.kind) h.current k.is_next.there;
      of_kind = k.is_next.of_kind;
      is_line = subst (λ (current : List Entry). item_line (length current + 1) k.answer ≡ line) h.current k.is_next.is_line;
    };
    told_so = refl;
  };
  tells = subst (λ (t : Told). TellsFrom round (with_entry kinds whole (entry_of k.answer)) t) (sym k.told_so)
      (put_too round kinds (λ current. current ++ entry_of k.answer ∷ []) whole told h);
}

tells_text : (round : ℕ) (kinds : List ItemKind) (line : List ℕ) → IsTaken round (λ told next. TellsText kinds told line next)
tells_text round kinds line whole told next h k = record {
  wholly = with_entry kinds whole (text_entry k.text);
  taken = record {
    text = k.text;
    is_next = record {
      extreme = subst (λ (current : List Entry). is_extreme (slice_get kinds (length current)) ≡ true) h.current k.is_next.extreme;
      shown = k.is_next.shown;
      is_line = subst (λ (current : List Entry). text_item_line (length current + 1) k.text ≡ line) h.current k.is_next.is_line;
    };
    told_so = refl;
  };
  tells = subst (λ (t : Told). TellsFrom round (with_entry kinds whole (text_entry k.text)) t) (sym k.told_so)
      (put_too round kinds (λ current. current ++ text_entry k.text ∷ []) whole told h);
}

item : (round : ℕ) (kinds : List ItemKind) (line : List ℕ) → IsTaken round (λ told next. TakesItem kinds told line next)
item round kinds line =
    or_else round (λ told next. Answers kinds told line next) (λ told next. TellsText kinds told line next)
    (answers round kinds line) (tells_text round kinds line)

extends : (round : ℕ) (kinds : List ItemKind) (line : List ℕ) → IsTaken round (λ told next. Extends kinds told line next)
extends round kinds line whole told next h k = record {
  wholly = with_extra kinds whole k.extra None;
  taken = record {
    kind = k.kind;
    extra = k.extra;
    is_next = record {
      some = subst (λ (current : List Entry). 0 < length current) h.current k.is_next.some;
      first = subst (λ (current : List Entry). ends_with_extra current ≡ false) h.current k.is_next.first;
      there = subst (λ (current : List Entry). slice_get kinds (length current - 1) ≡ Some k.kind) h.current k.is_next.there;
      of_kind = k.is_next.of_kind;
      is_line = subst (λ (current : List Entry). extra_line k.kind (length current) k.extra ≡ line) h.current k.is_next.is_line;
    };
    told_so = refl;
  };
  tells = subst (λ (t : Told). TellsFrom round (with_extra kinds whole k.extra None) t) (sym k.told_so)
      (put_too round kinds (λ current. set current (length current - 1) (extended (last_entry current) k.extra None)) whole told h);
}

clips_text : (round : ℕ) (kinds : List ItemKind) (line : List ℕ) → IsTaken round (λ told next. ClipsText kinds told line next)
clips_text round kinds line whole told next h k = record {
  wholly = with_extra kinds whole no_answer (Some k.clip);
  taken = record {
    clip = k.clip;
    is_next = record {
      some = subst (λ (current : List Entry). 0 < length current) h.current k.is_next.some;
      first = subst (λ (current : List Entry). ends_with_extra current ≡ false) h.current k.is_next.first;
      totals = sym h.group ∙ k.is_next.totals;
      extreme = subst (λ (current : List Entry). is_extreme (slice_get kinds (length current - 1)) ≡ true) h.current k.is_next.extreme;
      shown = k.is_next.shown;
      is_line = subst (λ (current : List Entry). text_clip_line (length current) k.clip ≡ line) h.current k.is_next.is_line;
    };
    told_so = refl;
  };
  tells = subst (λ (t : Told). TellsFrom round (with_extra kinds whole no_answer (Some k.clip)) t) (sym k.told_so)
      (put_too round kinds (λ current. set current (length current - 1) (extended (last_entry current) no_answer (Some k.clip))) whole told h);
}

extra : (round : ℕ) (kinds : List ItemKind) (line : List ℕ) → IsTaken round (λ told next. TakesExtra kinds told line next)
extra round kinds line =
    or_else round (λ told next. Extends kinds told line next) (λ told next. ClipsText kinds told line next)
    (extends round kinds line) (clips_text round kinds line)

passes_inside : (round : ℕ) (kinds : List ItemKind) (line : List ℕ) → IsTaken round (λ told next. PassesInside kinds told line next)
passes_inside round kinds line whole told next h k = record {
  wholly = whole;
  taken = record {
    average = subst (λ (current : List Entry). slice_get kinds (length current - 1) ≡ Some Avg) h.current k.average;
    exact = subst (λ (current : List Entry). ends_with_extra current ≡ true) h.current k.exact;
    is_line = subst (λ (current : List Entry). IsRowsLine (length current) line) h.current k.is_line;
    same = refl;
  };
  tells = subst (λ (t : Told). TellsFrom round whole t) (sym k.same) h;
}

passes_behind : (round : ℕ) (kinds : List ItemKind) (line : List ℕ) → IsTaken round (λ told next. PassesBehind kinds told line next)
passes_behind round kinds line whole told next h k = record {
  wholly = whole;
  taken = record { average = k.average; exact = sym h.closing ∙ k.exact; is_line = k.is_line; same = refl };
  tells = subst (λ (t : Told). TellsFrom round whole t) (sym k.same) h;
}

closes : (round : ℕ) (shape : Shape) (line : List ℕ) → IsTaken round (λ told next. Closes shape told line next)
closes round shape line whole told next h k =
    let g = groups_go_on round shape line closed completed (closed_too round) (completed_too round) whole told next h k.goes_on in
    record {
      wholly = g.wholly;
      taken = record {
        first = sym h.closing ∙ k.first;
        all = subst (λ (current : List Entry). length current ≡ length shape.kinds) h.current k.all;
        goes_on = g.taken;
      };
      tells = g.tells;
    }

rest : (round : ℕ) (shape : Shape) (line : List ℕ) → IsTaken round (λ told next. TakesRest shape told line next)
rest round shape line =
    or_else round (λ told next. PassesInside shape.kinds told line next) (λ told next. Closes shape told line next)
    (passes_inside round shape.kinds line) (closes round shape line)

behind_answer : (round : ℕ) (shape : Shape) (line : List ℕ) → IsTaken round (λ told next. TakesBehindAnswer shape told line next)
behind_answer round shape line =
    or_else round (λ told next. TakesExtra shape.kinds told line next) (λ told next. TakesRest shape told line next)
    (extra round shape.kinds line) (rest round shape line)

inside : (round : ℕ) (shape : Shape) (line : List ℕ) → IsTaken round (λ told next. TakesInside shape told line next)
inside round shape line =
    or_else round (λ told next. TakesItem shape.kinds told line next) (λ told next. TakesBehindAnswer shape told line next)
    (item round shape.kinds line) (behind_answer round shape line)

behind : (round : ℕ) (shape : Shape) (line : List ℕ) → IsTaken round (λ told next. TakesBehind shape told line next)
behind round shape line =
    or_else round (λ told next. GoesOn shape told line next) (λ told next. PassesBehind shape.kinds told line next)
    (goes_on round shape line) (passes_behind round shape.kinds line)

passes_behind_section : (round : ℕ) (kinds : List ItemKind) (line : List ℕ) → IsTaken round (λ told next. PassesBehindSection kinds told line next)
passes_behind_section round kinds line whole told next h k =
    let g = passes_behind round kinds line whole told next h k.passes in
    record {
      wholly = g.wholly;
      taken = record { some = subst (λ (sections : List GroupTold). 0 < length sections) h.sections k.some; passes = g.taken };
      tells = g.tells;
    }

between : (round : ℕ) (shape : Shape) (line : List ℕ) → IsTaken round (λ told next. TakesBetween shape told line next)
between round shape line =
    or_else round (λ told next. GroupsGoOn shape told (block_done told) line next) (λ told next. PassesBehindSection shape.kinds told line next)
    (groups_go_on round shape line (λ told. told) block_done (λ whole told h. h) (block_done_too round)) (passes_behind_section round shape.kinds line)

-- the rows of the block that was begun
with_rows_too : (round : ℕ) (whole told : Told) (rows : RowsTold) → TellsFrom round whole told → TellsFrom round (with_rows whole rows) (with_rows told rows)
with_rows_too round whole told rows h = record {
  tag = h.tag;
  closing = h.closing;
  sections = h.sections;
  group = h.group;
  current = h.current;
  rows = refl;
  place = h.place;
  count = h.count;
  same = h.same;
}

rows_done_too : (round : ℕ) (whole told : Told) (rows : RowsTold) → TellsFrom round whole told →
    TellsFrom round (rows_done (with_rows whole rows)) (rows_done (with_rows told rows))
rows_done_too round whole told rows h = record {
  tag = h.tag;
  closing = h.closing;
  sections = h.sections;
  group = h.group;
  current = h.current;
  rows = refl;
  place = refl;
  count = one_more whole.blocks told.blocks (Rows rows) h.count;
  same = λ later le. last_or round later whole.blocks told.blocks (Rows rows) h.count le h.same;
}

lists_row : (round : ℕ) (shape : Shape) (line : List ℕ) → IsTaken round (λ told next. ListsRow shape told line next)
lists_row round shape line whole told next h k = by k.goes_on
  where
    taken : TakesRows k.asked.limit whole.rows line k.rows
    taken = subst (λ (rows : RowsTold). TakesRows k.asked.limit rows line k.rows) h.rows k.taken

    by : RowsGoOn (with_rows told k.rows) next → GoesToo round whole (λ told next. ListsRow shape told line next) next
    by (inl g) = record {
      wholly = rows_done (with_rows whole k.rows);
      taken = record { asked = k.asked; is_asked = k.is_asked; rows = k.rows; taken = taken; goes_on = inl (g.0, refl) };
      tells = subst (λ (t : Told). TellsFrom round (rows_done (with_rows whole k.rows)) t) (sym g.1) (rows_done_too round whole told k.rows h);
    }
    by (inr g) = record {
      wholly = with_rows whole k.rows;
      taken = record { asked = k.asked; is_asked = k.is_asked; rows = k.rows; taken = taken; goes_on = inr (g.0, refl) };
      tells = subst (λ (t : Told). TellsFrom round (with_rows whole k.rows) t) (sym g.1) (with_rows_too round whole told k.rows h);
    }

-- the whole report takes the line, and tells the same from the round on
abbrev pub TakesToo : Place → List ℕ → Shape → ℕ → Told → List ℕ → Told → Type 0
TakesToo place query shape round whole line next = GoesToo round whole (λ told after. TakesAt place query shape told line after) next

takes_at : (place : Place) (query : List ℕ) (shape : Shape) (round : ℕ) (whole told : Told) (line : List ℕ) (next : Told) →
    TellsFrom round whole told → TakesAt place query shape told line next → TakesToo place query shape round whole line next
takes_at Query query shape round whole told line next h k = record {
  wholly = at_place whole Opened;
  taken = record { is_query = k.is_query; opened = refl };
  tells = moved_too round whole told next Opened h k.opened;
}
takes_at Opened query shape round whole told line next h (inl k) = record {
  wholly = at_place whole Round;
  taken = inl (record { parts = k.parts; few = k.few; is_line = k.is_line; passed = refl });
  tells = moved_too round whole told next Round h k.passed;
}
takes_at Opened query shape round whole told line next h (inr k) = record {
  wholly = at_place whole (opened_by shape);
  taken = inr (record { is_round = subst (λ (n : ℕ). IsRoundLine n line) h.count k.is_round; begun = refl });
  tells = moved_too round whole told next (opened_by shape) h k.begun;
}
takes_at Round query shape round whole told line next h k = behind round shape line whole told next h k
takes_at Group query shape round whole told line next h k = between round shape line whole told next h k
takes_at Items query shape round whole told line next h k = inside round shape line whole told next h k
takes_at Row query shape round whole told line next h k = lists_row round shape line whole told next h k
takes_at (Ended end) query shape round whole told line next h k = absurd k

pub takes_too : (query : List ℕ) (shape : Shape) (round : ℕ) (whole told : Told) (line : List ℕ) (next : Told) →
    TellsFrom round whole told → Takes query shape told line next → TakesToo whole.place query shape round whole line next
takes_too query shape round whole told line next h k =
    subst (λ (place : Place). TakesToo place query shape round whole line next) h.place
    (takes_at told.place query shape round whole told line next h k)

-- ---- a line of the input more

same_against : (round : ℕ) (tag : List ℕ) (whole part : Told) → TellsFrom round whole part → against tag part ≡ against tag whole
same_against round tag whole part h = ap (λ (t : List ℕ). slice_cmp nat_cmp t tag) h.tag

by_each : (P : Ordering → Type 0) (o : Ordering) → P Less → P Equal → P Greater → P o
by_each P Less a b c = a
by_each P Equal a b c = b
by_each P Greater a b c = c

pub told_of_too : (round : ℕ) (tag : List ℕ) (wholes parts : List Told) → AllTellFrom round wholes parts → TellsFrom round (told_of tag wholes) (told_of tag parts)
told_of_too round tag [] [] h = tells_here round (nothing_told tag)
told_of_too round tag [] (part ∷ parts) h = absurd h
told_of_too round tag (whole ∷ wholes) [] h = absurd h
told_of_too round tag (whole ∷ wholes) (part ∷ parts) h =
    subst (λ (o : Ordering). TellsFrom round (told_of tag (whole ∷ wholes)) (by_order o (told_of tag parts) part (nothing_told tag)))
    (sym (same_against round tag whole part h.0))
    (by_each (λ (o : Ordering). TellsFrom round (by_order o (told_of tag wholes) whole (nothing_told tag)) (by_order o (told_of tag parts) part (nothing_told tag)))
    (against tag whole) (told_of_too round tag wholes parts h.1) h.0 (tells_here round (nothing_told tag)))

with_part_too : (round : ℕ) (wholly told : Told) (wholes parts : List Told) → TellsFrom round wholly told → AllTellFrom round wholes parts →
    AllTellFrom round (with_part wholly wholes) (with_part told parts)
with_part_too round wholly told [] [] h k = (h, tt)
with_part_too round wholly told [] (part ∷ parts) h k = absurd k
with_part_too round wholly told (whole ∷ wholes) [] h k = absurd k
with_part_too round wholly told (whole ∷ wholes) (part ∷ parts) h k =
    let same : against told.tag part ≡ against wholly.tag whole = ap (λ (t : List ℕ). against t part) h.tag ∙ same_against round wholly.tag whole part k.0 in
    subst (λ (o : Ordering). AllTellFrom round (with_part wholly (whole ∷ wholes)) (by_order o (part ∷ with_part told parts) (told ∷ parts) (told ∷ part ∷ parts)))
    (sym same)
    (by_each (λ (o : Ordering). AllTellFrom round (by_order o (whole ∷ with_part wholly wholes) (wholly ∷ wholes) (wholly ∷ whole ∷ wholes))
    (by_order o (part ∷ with_part told parts) (told ∷ parts) (told ∷ part ∷ parts)))
    (against wholly.tag whole) (k.0, with_part_too round wholly told wholes parts h k.1) (h, k.1) (h, k))

pub record TakesTaggedToo (query : List ℕ) (shape : Shape) (round : ℕ) (wholes : List Told) (line : List ℕ) (next : List Told) : Type 0 where
  pub wholly : List Told
  pub taken : TakesTagged query shape wholes line wholly
  pub tells : AllTellFrom round wholly next

pub takes_tagged_too : (query : List ℕ) (shape : Shape) (round : ℕ) (wholes parts : List Told) (line : List ℕ) (next : List Told) →
    AllTellFrom round wholes parts → TakesTagged query shape parts line next → TakesTaggedToo query shape round wholes line next
takes_tagged_too query shape round wholes parts line next h k =
    let one = takes_too query shape round (told_of (tag_of line) wholes) (told_of (tag_of line) parts) (behind_tag line) k.told
    (told_of_too round (tag_of line) wholes parts h) k.taken in
    record {
      wholly = with_part one.wholly wholes;
      taken = record { told = one.wholly; is_tag = k.is_tag; taken = one.taken; put = refl };
      tells = subst (λ (ps : List Told). AllTellFrom round (with_part one.wholly wholes) ps) (sym k.put)
          (with_part_too round one.wholly k.told wholes parts one.tells h);
    }

-- ---- a block is forgotten

forgotten : (n : ℕ) (block : Block) (blocks : List Block) (i : ℕ) → n + 1 ≤ i →
    get_or (replicate (n + 1) no_block ++ blocks) i no_block ≡ get_or (replicate n no_block ++ block ∷ blocks) i no_block
forgotten n block blocks i le =
    let next : i - n ≡ suc (i - (n + 1)) = omega (arith, le) in
    get_or-append_right (replicate (n + 1) no_block) blocks (n + 1) i no_block (length-replicate (n + 1) no_block) le
    ∙ sym (ap (λ (k : ℕ). get_or (block ∷ blocks) k no_block) next)
    ∙ sym (get_or-append_right (replicate n no_block) (block ∷ blocks) n i no_block (length-replicate n no_block) (omega (arith, le)))

-- where it is before the round, and not the last
pub passed_on : (tag : List ℕ) (n round : ℕ) (blocks : List Block) (closing : Closing) (sections : List GroupTold) (group : Option GroupLine) (current : List Entry) (rows : RowsTold) (place : Place) →
    n < round → 1 < length blocks →
    TellsFrom round
    (record { tag = tag; blocks = replicate n no_block ++ blocks; closing = closing; sections = sections; group = group; current = current; rows = rows; place = place })
    (record { tag = tag; blocks = replicate (n + 1) no_block ++ remove blocks 0; closing = closing; sections = sections; group = group; current = current; rows = rows; place = place })
passed_on tag n round [] closing sections group current rows place less some = absurd (omega (arith, some))
passed_on tag n round (block ∷ blocks) closing sections group current rows place less some =
    let before : length (replicate n no_block ++ block ∷ blocks) ≡ n + suc (length blocks) =
    length-append (replicate n no_block) (block ∷ blocks) ∙ ap (λ (k : ℕ). k + suc (length blocks)) (length-replicate n no_block) in
    let behind : length (replicate (n + 1) no_block ++ blocks) ≡ n + 1 + length blocks =
    length-append (replicate (n + 1) no_block) blocks ∙ ap (λ (k : ℕ). k + length blocks) (length-replicate (n + 1) no_block) in
    record {
      tag = refl;
      closing = refl;
      sections = refl;
      group = refl;
      current = refl;
      rows = refl;
      place = refl;
      count = omega (arith, before, behind);
      same = λ later le.
          let there : min later (length (replicate (n + 1) no_block ++ blocks) - 1) ≡ min later (length (replicate n no_block ++ block ∷ blocks) - 1) =
          ap (λ (k : ℕ). min later (k - 1)) (let e : length (replicate (n + 1) no_block ++ blocks) ≡ length (replicate n no_block ++ block ∷ blocks) = omega (arith, before, behind) in e) in
          ap (λ (k : ℕ). get_or (replicate (n + 1) no_block ++ blocks) k no_block) there
          ∙ forgotten n block blocks (min later (length (replicate n no_block ++ block ∷ blocks) - 1)) (omega (arith, before, less, le, some));
    }

pub all_here : (round : ℕ) (parts : List Told) → AllTellFrom round parts parts
all_here round [] = tt
all_here round (part ∷ parts) = (tells_here round part, all_here round parts)

-- one part forgets a block
pub set_passed : (round : ℕ) (wholes parts : List Told) (place : ℕ) (next d : Told) → AllTellFrom round wholes parts → place < length parts →
    TellsFrom round (get_or parts place d) next → AllTellFrom round wholes (set parts place next)
set_passed round [] [] place next d h lt k = absurd (omega (arith, lt))
set_passed round [] (part ∷ parts) place next d h lt k = absurd h
set_passed round (whole ∷ wholes) [] place next d h lt k = absurd h
set_passed round (whole ∷ wholes) (part ∷ parts) zero next d h lt k = (tells_both round round whole part next (omega arith) h.0 k, h.1)
set_passed round (whole ∷ wholes) (part ∷ parts) (suc place) next d h lt k =
    (h.0, set_passed round wholes parts place next d h.1 (omega (arith, lt)) k)

pub same_tags : (round : ℕ) (wholes parts : List Told) → AllTellFrom round wholes parts →
    map (λ (part : Told). part.tag) wholes ≡ map (λ (part : Told). part.tag) parts
same_tags round [] [] h = refl
same_tags round [] (part ∷ parts) h = absurd h
same_tags round (whole ∷ wholes) [] h = absurd h
same_tags round (whole ∷ wholes) (part ∷ parts) h = rw (h.0.tag, same_tags round wholes parts h.1) refl

-- ---- what is refused

cannot_too : (query : List ℕ) (shape : Shape) (round : ℕ) (whole told : Told) (line : List ℕ) → TellsFrom round whole told →
    CannotTake query shape told line → CannotTake query shape whole line
cannot_too query shape round whole told line h cannot next taken =
    let back = takes_too query shape round told whole line next (tells_back round whole told h) taken in
    cannot back.wholly back.taken

unlisted_too : (round : ℕ) (whole told : Told) → TellsFrom round whole told → IsUnlisted told → IsUnlisted whole
unlisted_too round whole told h u = (sym h.place ∙ u.0, subst (λ (rows : RowsTold). LacksPossible rows) h.rows u.1)

line_refused_too : (why : LineFault) (query : List ℕ) (shape : Shape) (round : ℕ) (whole told : Told) (line : List ℕ) → TellsFrom round whole told →
    IsLineRefused why query shape told line → IsLineRefused why query shape whole line
line_refused_too OtherQuery query shape round whole told line h refused = (sym h.place ∙ refused.0, cannot_too query shape round whole told line h refused.1)
line_refused_too Unlisted query shape round whole told line h refused =
    (unlisted_too round whole told h refused.0, cannot_too query shape round whole told line h refused.1)
line_refused_too OtherLine query shape round whole told line h refused = (
  λ e. refused.0 (h.place ∙ e),
  λ u. refused.1 (unlisted_too round told whole (tells_back round whole told h) u),
  cannot_too query shape round whole told line h refused.2,
)
line_refused_too NoMemory query shape round whole told line h refused = tt

-- the same parts came
has_too : (tag : List ℕ) (round : ℕ) (wholes parts : List Told) → AllTellFrom round wholes parts → HasPart tag wholes → HasPart tag parts
has_too tag round wholes parts h has = subst (λ (tags : List (List ℕ)). Contains tags tag) (same_tags round wholes parts h) has

has_back : (tag : List ℕ) (round : ℕ) (wholes parts : List Told) → AllTellFrom round wholes parts → HasPart tag parts → HasPart tag wholes
has_back tag round wholes parts h has = subst (λ (tags : List (List ℕ)). Contains tags tag) (sym (same_tags round wholes parts h)) has

one_more_too : (tag : List ℕ) (most round : ℕ) (wholes parts : List Told) → AllTellFrom round wholes parts → IsOneMore most parts tag → IsOneMore most wholes tag
one_more_too tag most round wholes parts h more =
    let count = same_count round wholes parts h in (omega (arith, count, more.0), λ has. more.1 (has_too tag round wholes parts h has))

one_more_back : (tag : List ℕ) (most round : ℕ) (wholes parts : List Told) → AllTellFrom round wholes parts → IsOneMore most wholes tag → IsOneMore most parts tag
one_more_back tag most round wholes parts h more =
    let count = same_count round wholes parts h in (omega (arith, count, more.0), λ has. more.1 (has_back tag round wholes parts h has))

pub refused_too : (why : InputFault) (query : List ℕ) (shape : Shape) (most round : ℕ) (wholes parts : List Told) (line : List ℕ) →
    AllTellFrom round wholes parts → IsRefused why query shape most parts line → IsRefused why query shape most wholes line
refused_too NoTab query shape most round wholes parts line h refused = refused
refused_too NoTag query shape most round wholes parts line h refused = refused
refused_too OtherPart query shape most round wholes parts line h refused =
    (refused.0, one_more_too (tag_of line) most round wholes parts h refused.1)
refused_too (Line why) query shape most round wholes parts line h refused = (
  refused.0,
  λ more. refused.1 (one_more_back (tag_of line) most round wholes parts h more),
  line_refused_too why query shape round (told_of (tag_of line) wholes) (told_of (tag_of line) parts) (behind_tag line)
      (told_of_too round (tag_of line) wholes parts h) refused.2,
)

-- a block that can be written, and one that is not
pub said_too : (round : ℕ) (shape : Shape) (wholes parts : List Told) → AllTellFrom round wholes parts → CanSay round shape parts → CanSay round shape wholes
said_too round shape wholes parts h said =
    said_as round shape.kinds parts wholes (λ item. sym (same_in round round item wholes parts (omega arith) h)) (sym (same_groups round round wholes parts (omega arith) h))
    (sym (same_listed round round wholes parts (omega arith) h)) shape.columns shape.rows said

pub block_fault_too : (why : BlockFault) (round : ℕ) (shape : Shape) (wholes parts : List Told) → AllTellFrom round wholes parts →
    IsBlockFault why round shape parts → IsBlockFault why round shape wholes
block_fault_too why round shape wholes parts h refused =
    fault_as round shape.kinds parts wholes (λ item. sym (same_in round round item wholes parts (omega arith) h)) (sym (same_groups round round wholes parts (omega arith) h))
    (sym (same_listed round round wholes parts (omega arith) h)) shape.columns shape.rows why refused

-- ---- a block among those that are kept

kept_count : (n : ℕ) (blocks : List Block) → length (replicate n no_block ++ blocks) ≡ n + length blocks
kept_count n blocks = length-append (replicate n no_block) blocks ∙ ap (λ (k : ℕ). k + length blocks) (length-replicate n no_block)

pub count_is : (count n : ℕ) (blocks : List Block) → count ≡ n + length blocks → count ≡ length (replicate n no_block ++ blocks)
count_is count n blocks e = e ∙ sym (kept_count n blocks)

last_is : (count n round : ℕ) (blocks : List Block) → count ≡ length (replicate n no_block ++ blocks) →
    min round (length (replicate n no_block ++ blocks) - 1) ≡ min round (count - 1)
last_is count n round blocks e = ap (λ (k : ℕ). min round (k - 1)) (sym e)

pub none_kept : (count n round : ℕ) (blocks : List Block) → count ≡ length (replicate n no_block ++ blocks) → count ≡ 0 →
    [] ≡ entries_of (get_or (replicate n no_block ++ blocks) (min round (length (replicate n no_block ++ blocks) - 1)) no_block)
none_kept count n round blocks e none =
    ap entries_of (sym (get_or-eq_default (replicate n no_block ++ blocks) no_block
    (let nothing : length (replicate n no_block ++ blocks) ≤ min round (length (replicate n no_block ++ blocks) - 1) = omega (arith, e, none) in nothing)))

long : (n k : ℕ) → k < n → k < length (replicate n no_block)
long n k less = subst (λ (m : ℕ). k < m) (sym (length-replicate n no_block)) less

pub block_forgotten : (count n round : ℕ) (blocks : List Block) → count ≡ length (replicate n no_block ++ blocks) → min round (count - 1) < n →
    [] ≡ entries_of (get_or (replicate n no_block ++ blocks) (min round (length (replicate n no_block ++ blocks) - 1)) no_block)
block_forgotten count n round blocks e less =
    ap entries_of (sym (ap (λ (k : ℕ). get_or (replicate n no_block ++ blocks) k no_block) (last_is count n round blocks e)
    ∙ get_or_append_left (replicate n no_block) blocks no_block (min round (count - 1)) (long n (min round (count - 1)) less)
    ∙ get_or-replicate n (min round (count - 1)) no_block no_block less))

pub block_kept : (count n round : ℕ) (blocks : List Block) → count ≡ length (replicate n no_block ++ blocks) → n ≤ min round (count - 1) →
    entries_of (get_or blocks (min round (count - 1) - n) no_block)
    ≡ entries_of (get_or (replicate n no_block ++ blocks) (min round (length (replicate n no_block ++ blocks) - 1)) no_block)
block_kept count n round blocks e le =
    ap entries_of (sym (ap (λ (k : ℕ). get_or (replicate n no_block ++ blocks) k no_block) (last_is count n round blocks e)
    ∙ get_or-append_right (replicate n no_block) blocks n (min round (count - 1)) no_block (length-replicate n no_block) le))

-- the parts stay in order
pub order_behind : (n round : ℕ) (items old new : List Told) → old ≡ items → n ≡ length items → AreInOrder items → AllTellFrom round old new →
    AreInOrder (take n (new ++ drop (length new) items))
order_behind n round items old new e size sorted h =
    let count : length new ≡ n = same_count round old new h ∙ ap (λ (ps : List Told). length ps) e ∙ sym size in
    let kept : take n (new ++ drop (length new) items) ≡ new = ap (λ (k : ℕ). take k (new ++ drop (length new) items)) (sym count) ∙ take-append_seam new (drop (length new) items) in
    let before : AreInOrder old = subst (λ (ps : List Told). AreInOrder ps) (sym e) sorted in
    subst (λ (ps : List Told). AreInOrder ps) (sym kept)
    (subst (λ (tags : List (List ℕ)). IsStrictlySortedBy (slice_cmp nat_cmp) tags) (same_tags round old new h) before)
