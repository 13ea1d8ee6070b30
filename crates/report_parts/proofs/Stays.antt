-- That a line takes nothing back of what a part has told.
use Rattle.std.proofs.Common.{◌≡◌, ◌≢◌, ℕ, zero, suc, ◌+◌, ◌-◌, ◌<◌, min, Bool, true, false, ◌||◌, Option, Some, None, List, [], ◌∷◌, ◌++◌, length, set, get_or, if◌then◌else◌, refl, sym, ap, ◌∙◌, inl, inr, arith, length-append, append-nil}
use Rattle.std.proofs.lemmas.Bool.{false≢true, lt-ltb, ltb-true}
use Rattle.std.proofs.lemmas.List.{append_assoc, get_or_append_left}
use Rattle.query_kinds.specs.declared.rows.FirstRows.{FirstRows}
use Rattle.report_text.specs.declared.groups.GroupLine.{GroupLine}
use Rattle.query_model.specs.declared.query.ItemKind.{ItemKind}
use Rattle.report_parts.specs.Blocks.{no_block}
use Rattle.report_parts.specs.Entries.{answers_of, last_entry, no_answer}
use Rattle.report_parts.specs.Texts.{group_texts}
use Rattle.report_parts.specs.Laws.{GoesBehind, KeepsBlock, LinesOnlyAdd, ToldBlocksStay}
use Rattle.report_parts.specs.Rounds.{is_ended}
use Rattle.report_parts.specs.Told.{BeginsGroup, GoesOn, GroupsGoOn, ListsRow, RowsGoOn, TakesAt, TakesBehindAnswer, TakesInside, TakesItem, TakesRest, Told, at_place, block_done, closed, closed_by, completed, completed_by, entry_of, extended, is_whole, opened_by, opened_with, text_entry, with_current, with_rows}
use Rattle.report_parts.specs.declared.block.Block.{Block}
use Rattle.report_parts.specs.declared.block.Block.TheVariants.{Groups, Rows, Totals}
use Rattle.report_parts.specs.declared.entry.Entry.{Entry}
use Rattle.report_parts.specs.declared.part.Place.{Place}
use Rattle.report_parts.specs.declared.part.Place.TheVariants.{Query, Opened, Round, Group, Items, Row, Ended}
use Rattle.report_parts.specs.declared.shape.Shape.{Shape}

-- what holds behind each line that is taken: the tag stays, the report has begun, and no block is taken back
pub record Follows (told next : Told) : Type 0 where
  pub tag : next.tag ≡ told.tag
  pub begun : next.place ≢ Query
  pub behind : GoesBehind told next

moved : (told next : Told) (place : Place) → place ≢ Query → next ≡ at_place told place → Follows told next
moved told next place other e = record {
  tag = ap (λ (t : Told). t.tag) e;
  begun = λ f. other (sym (ap (λ (t : Told). t.place) e) ∙ f);
  behind = record { more = []; blocks = ap (λ (t : Told). t.blocks) e ∙ sym (append-nil told.blocks) };
}

-- once the block that was begun is whole
rests : (told next : Told) → told.place ≢ Query → next ≡ told → Follows told next
rests told next other e = record {
  tag = ap (λ (t : Told). t.tag) e;
  begun = λ f. other (sym (ap (λ (t : Told). t.place) e) ∙ f);
  behind = record { more = []; blocks = ap (λ (t : Told). t.blocks) e ∙ sym (append-nil told.blocks) };
}

-- what holds behind a line, seen from before some blocks were whole
from_before : (told mid next : Told) → mid.tag ≡ told.tag → GoesBehind told mid → Follows mid next → Follows told next
from_before told mid next e g h = record {
  tag = h.tag ∙ e;
  begun = h.begun;
  behind = record {
    more = g.more ++ h.behind.more;
    blocks = h.behind.blocks ∙ ap (λ (xs : List Block). xs ++ h.behind.more) g.blocks ∙ append_assoc told.blocks g.more h.behind.more;
  };
}

-- the block or the section that was begun is whole
closed_follows : (group : Option GroupLine) (told next : Told) → next ≡ closed_by group told → Follows told next
closed_follows None told next e = record {
  tag = ap (λ (t : Told). t.tag) e;
  begun = λ f. absurd (let g : Round ≡ Query = sym (ap (λ (t : Told). t.place) e) ∙ f in cc);
  behind = record { more = Totals told.current ∷ []; blocks = ap (λ (t : Told). t.blocks) e };
}
closed_follows (Some group) told next e = record {
  tag = ap (λ (t : Told). t.tag) e;
  begun = λ f. absurd (let g : Group ≡ Query = sym (ap (λ (t : Told). t.place) e) ∙ f in cc);
  behind = record { more = []; blocks = ap (λ (t : Told). t.blocks) e ∙ sym (append-nil told.blocks) };
}

-- the block is whole, with what was begun
completed_follows : (group : Option GroupLine) (told : Told) → Follows told (completed_by group told)
completed_follows None told = closed_follows None told (closed_by None told) refl
completed_follows (Some group) told = record {
  tag = refl;
  begun = λ f. absurd (let g : Round ≡ Query = f in cc);
  behind = record { more = Groups (told.sections ++ record { line = group; answers = answers_of told.current; texts = group_texts told.current } ∷ []) ∷ []; blocks = refl };
}

put_in : (whole : Bool) (told next : Told) (current : List Entry) →
    next ≡ (if whole then closed (with_current told current) else at_place (with_current told current) Items) → Follows told next
put_in true told next current e =
    let h = closed_follows told.group (with_current told current) next e in
    record { tag = h.tag; begun = h.begun; behind = record { more = h.behind.more; blocks = h.behind.blocks } }
put_in false told next current e = record {
  tag = ap (λ (t : Told). t.tag) e;
  begun = λ f. absurd (let g : Items ≡ Query = sym (ap (λ (t : Told). t.place) e) ∙ f in cc);
  behind = record { more = []; blocks = ap (λ (t : Told). t.blocks) e ∙ sym (append-nil told.blocks) };
}

opened_other : (asked : Option FirstRows) (columns : ℕ) → opened_with asked columns ≢ Query
opened_other (Some asked) columns e = absurd cc
opened_other None zero e = absurd cc
opened_other None (suc columns) e = absurd cc

goes_on : (shape : Shape) (told next : Told) (line : List ℕ) → GoesOn shape told line next → Follows told next
goes_on shape told next line (inl h) = moved told next (opened_by shape) (opened_other shape.rows shape.columns) h.begun
goes_on shape told next line (inr h) = moved told next (Ended h.end) (λ e. absurd cc) h.ended

begins_group : (columns : ℕ) (told next : Told) (line : List ℕ) → BeginsGroup columns told line next → Follows told next
begins_group columns told next line h = record {
  tag = ap (λ (t : Told). t.tag) h.begun;
  begun = λ f. absurd (let g : Items ≡ Query = sym (ap (λ (t : Told). t.place) h.begun) ∙ f in cc);
  behind = record { more = []; blocks = ap (λ (t : Told). t.blocks) h.begun ∙ sym (append-nil told.blocks) };
}

closes : (shape : Shape) (told next : Told) (line : List ℕ) → GroupsGoOn shape (closed told) (completed told) line next → Follows told next
closes shape told next line (inl h) =
    let g = closed_follows told.group told (closed told) refl in
    from_before told (closed told) next g.tag g.behind (begins_group shape.columns (closed told) next line h)
closes shape told next line (inr h) =
    let g = completed_follows told.group told in
    from_before told (completed told) next g.tag g.behind (goes_on shape (completed told) next line h)

between : (shape : Shape) (told next : Told) (line : List ℕ) → GroupsGoOn shape told (block_done told) line next → Follows told next
between shape told next line (inl h) = begins_group shape.columns told next line h
between shape told next line (inr h) =
    from_before told (block_done told) next refl (record { more = Groups told.sections ∷ []; blocks = refl }) (goes_on shape (block_done told) next line h)

rest : (shape : Shape) (told : Told) (line : List ℕ) (next : Told) → told.place ≢ Query → TakesRest shape told line next → Follows told next
rest shape told line next other (inl h) = rests told next other h.same
rest shape told line next other (inr h) = closes shape told next line h.1.goes_on

behind_answer : (shape : Shape) (told : Told) (line : List ℕ) (next : Told) → told.place ≢ Query → TakesBehindAnswer shape told line next → Follows told next
behind_answer shape told line next other (inl (inl h)) =
    let current = set told.current (length told.current - 1) (extended (last_entry told.current) h.extra None) in
    put_in (is_whole shape.kinds told.closing current) told next current h.told_so
behind_answer shape told line next other (inl (inr h)) =
    let current = set told.current (length told.current - 1) (extended (last_entry told.current) no_answer (Some h.1.clip)) in
    put_in (is_whole shape.kinds told.closing current) told next current h.1.told_so
behind_answer shape told line next other (inr h) = rest shape told line next other h.1

item : (kinds : List ItemKind) (told : Told) (line : List ℕ) (next : Told) → TakesItem kinds told line next → Follows told next
item kinds told line next (inl h) =
    let current = told.current ++ entry_of h.answer ∷ [] in
    put_in (is_whole kinds told.closing current) told next current h.told_so
item kinds told line next (inr h) =
    let current = told.current ++ text_entry h.1.text ∷ [] in
    put_in (is_whole kinds told.closing current) told next current h.1.told_so

inside : (shape : Shape) (told : Told) (line : List ℕ) (next : Told) → told.place ≢ Query → TakesInside shape told line next → Follows told next
inside shape told line next other (inl h) = item shape.kinds told line next h
inside shape told line next other (inr h) = behind_answer shape told line next other h.1

lists_row : (shape : Shape) (told : Told) (line : List ℕ) (next : Told) → told.place ≢ Query → ListsRow shape told line next → Follows told next
lists_row shape told line next other h = by h.goes_on
  where
    by : RowsGoOn (with_rows told h.rows) next → Follows told next
    by (inl k) = record {
      tag = ap (λ (t : Told). t.tag) k.1;
      begun = λ f. absurd (let g : Round ≡ Query = sym (ap (λ (t : Told). t.place) k.1) ∙ f in cc);
      behind = record { more = Rows h.rows ∷ []; blocks = ap (λ (t : Told). t.blocks) k.1 };
    }
    by (inr k) = record {
      tag = ap (λ (t : Told). t.tag) k.1;
      begun = λ f. other (sym (ap (λ (t : Told). t.place) k.1) ∙ f);
      behind = record { more = []; blocks = ap (λ (t : Told). t.blocks) k.1 ∙ sym (append-nil told.blocks) };
    }

pub follows : (place : Place) (query : List ℕ) (shape : Shape) (told : Told) (line : List ℕ) (next : Told) → told.place ≡ place →
    TakesAt place query shape told line next → Follows told next
follows Query query shape told line next e h = moved told next Opened (λ f. absurd cc) h.opened
follows Opened query shape told line next e (inl h) = moved told next Round (λ f. absurd cc) h.passed
follows Opened query shape told line next e (inr h) = goes_on shape told next line (inl h)
follows Round query shape told line next e (inl h) = goes_on shape told next line h
follows Round query shape told line next e (inr h) = rests told next (λ f. absurd (let g : Round ≡ Query = sym e ∙ f in cc)) h.1.same
follows Group query shape told line next e (inl h) = between shape told next line h
follows Group query shape told line next e (inr h) = rests told next (λ f. absurd (let g : Group ≡ Query = sym e ∙ f in cc)) h.1.passes.same
follows Items query shape told line next e h = inside shape told line next (λ f. absurd (let g : Items ≡ Query = sym e ∙ f in cc)) h
follows Row query shape told line next e h = lists_row shape told line next (λ f. absurd (let g : Row ≡ Query = sym e ∙ f in cc)) h
follows (Ended end) query shape told line next e h = absurd h

pub only_add : LinesOnlyAdd
only_add query shape told line next h = (follows told.place query shape told line next refl h).behind

-- ---- a told block stays

pub none_behind : (place : Place) (query : List ℕ) (shape : Shape) (told : Told) (line : List ℕ) (next : Told) →
    TakesAt place query shape told line next → is_ended place ≡ false
none_behind Query query shape told line next h = refl
none_behind Opened query shape told line next h = refl
none_behind Round query shape told line next h = refl
none_behind Group query shape told line next h = refl
none_behind Items query shape told line next h = refl
none_behind Row query shape told line next h = refl
none_behind (Ended end) query shape told line next h = absurd h

or_right : (a b : Bool) → b ≡ true → (a || b) ≡ true
or_right true b h = refl
or_right false b h = h

first_false : (a b : Bool) → a ≡ false → (a || b) ≡ true → b ≡ true
first_false true b e h = absurd (false≢true (sym e))
first_false false b e h = h

kept : (round : ℕ) (told next : Told) → GoesBehind told next → round < length told.blocks → KeepsBlock round told next
kept round told next behind below =
    let longer : length next.blocks ≡ length told.blocks + length behind.more = ap length behind.blocks ∙ length-append told.blocks behind.more in
    let within : round < length next.blocks = omega (arith, below, longer) in
    let now : min round (length next.blocks - 1) ≡ round = omega (arith, within) in
    let before : min round (length told.blocks - 1) ≡ round = omega (arith, below) in
    record {
      has = or_right (is_ended next.place) _ (lt-ltb round (length next.blocks) within);
      same =
          ap (λ (k : ℕ). get_or next.blocks k no_block) now
          ∙ ap (λ (xs : List Block). get_or xs round no_block) behind.blocks
          ∙ get_or_append_left told.blocks behind.more no_block round below
          ∙ sym (ap (λ (k : ℕ). get_or told.blocks k no_block) before);
    }

pub blocks_stay : ToldBlocksStay
blocks_stay query shape round told line next h has =
    kept round told next (only_add query shape told line next h)
    (ltb-true round (length told.blocks) (first_false (is_ended told.place) _ (none_behind told.place query shape told line next h) has))
