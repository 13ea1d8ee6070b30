-- That of several ways in which a line may be taken the first is taken that it goes.
use Rattle.std.proofs.Common.{◌≡◌, ℕ, ◌+◌, Option, Some, None, List, [], ◌∷◌, ◌++◌, length, Bool, true, false, Result, Ok, Err, IfOk, refl, sym, ap, subst, ◌∙◌, inl, inr, ◌⊎◌, MatchBool, MatchOption, length-append}
use Rattle.std.proofs.lemmas.Bool.{false≢true}
use Rattle.std.proofs.lemmas.Option.{none-some}
use Rattle.report_text.specs.declared.groups.GroupLine.{GroupLine}
use Rattle.report_parts.specs.Told.{Closes, GroupsGoOn, OrElse, Refuses, Told, block_done, closed, completed, completed_by}
use Rattle.report_parts.specs.declared.block.Block.TheVariants.{Groups, Totals}
use Rattle.report_parts.specs.declared.closing.Closing.TheVariants.{Unknown}
use Rattle.report_parts.specs.Entries.{answers_of}
use Rattle.report_parts.specs.Texts.{group_texts}
use Rattle.report_parts.specs.declared.shape.Shape.{Shape}

-- where the first is refused, which changes nothing, the second decides
pub second_decides : (r : Bool) (First Second : Told → Told → Type 0) (old mid new : Told) → Refuses (First old) old mid →
    MatchBool r (Second mid new) (Refuses (Second mid) mid new) →
    MatchBool r (First old new ⊎ Second old new) (Refuses (λ next. First old next ⊎ Second old next) old new)
second_decides true First Second old mid new kept h = inr (subst (λ (t : Told). Second t new) kept.0 h)
second_decides false First Second old mid new kept h = (
  h.0 ∙ kept.0,
  λ next either. elim either as (λ _. ⊥) [ inl a ↦ kept.1 next a | inr b ↦ h.1 next (subst (λ (t : Told). Second t next) (sym kept.0) b) ],
)

-- where the first way is refused, which changes nothing, the other decides
pub else_decides : (r : Bool) (First Second : Told → Told → Type 0) (old mid new : Told) → Refuses (First old) old mid →
    MatchBool r (Second mid new) (Refuses (Second mid) mid new) →
    MatchBool r (OrElse (First old) (Second old) new) (Refuses (OrElse (First old) (Second old)) old new)
else_decides true First Second old mid new kept h = inr (kept.1, subst (λ (t : Told). Second t new) kept.0 h)
else_decides false First Second old mid new kept h = (
  h.0 ∙ kept.0,
  λ next either. elim either as (λ _. ⊥) [ inl a ↦ kept.1 next a | inr b ↦ h.1 next (subst (λ (t : Told). Second t next) (sym kept.0) b.1) ],
)

-- the same where memory may run out
pub else_decides_ok : {E : Type 0} (r : Result Bool E) (First Second : Told → Told → Type 0) (old mid new : Told) → Refuses (First old) old mid →
    IfOk r (λ taken. MatchBool taken (Second mid new) (Refuses (Second mid) mid new)) →
    IfOk r (λ taken. MatchBool taken (OrElse (First old) (Second old) new) (Refuses (OrElse (First old) (Second old)) old new))
else_decides_ok (Ok taken) First Second old mid new kept h = else_decides taken First Second old mid new kept h
else_decides_ok (Err e) First Second old mid new kept h = tt

pub second_decides_ok : {E : Type 0} (r : Result Bool E) (First Second : Told → Told → Type 0) (old mid new : Told) → Refuses (First old) old mid →
    IfOk r (λ taken. MatchBool taken (Second mid new) (Refuses (Second mid) mid new)) →
    IfOk r (λ taken. MatchBool taken (First old new ⊎ Second old new) (Refuses (λ next. First old next ⊎ Second old next) old new))
second_decides_ok (Ok taken) First Second old mid new kept h = second_decides taken First Second old mid new kept h
second_decides_ok (Err e) First Second old mid new kept h = tt

pub refused_when : (A B : Type 0) (b : Bool) → b ≡ false → MatchBool b A B → B
refused_when A B true e h = absurd (false≢true (sym e))
refused_when A B false e h = h

pub taken_when : (A B : Type 0) (b : Bool) → b ≡ true → MatchBool b A B → A
taken_when A B true e h = h
taken_when A B false e h = absurd (false≢true e)

pub none_given : {X : Type 0} (o : Option X) (A : Type 0) (B : X → Type 0) → o ≡ None → MatchOption o A B → A
none_given None A B e h = h
none_given (Some x) A B e h = absurd (none-some x (sym e))

-- where nothing changes in either case
pub unchanged : (r : Bool) (Way : Told → Type 0) (told : Told) → MatchBool r (Way told) ((next : Told) → Way next → ⊥) → MatchBool r (Way told) (Refuses Way told told)
unchanged true Way told h = h
unchanged false Way told h = (refl, h)

-- what ends the first block, or the first section
pub closes_ok : {E : Type 0} (r : Result Bool E) (shape : Shape) (told : Told) (line : List ℕ) (next : Told) → told.closing ≡ Unknown → length told.current ≡ length shape.kinds →
    IfOk r (λ taken. MatchBool taken (GroupsGoOn shape (closed told) (completed told) line next) (Refuses (GroupsGoOn shape (closed told) (completed told) line) told next)) →
    IfOk r (λ taken. MatchBool taken (Closes shape told line next) (Refuses (Closes shape told line) told next))
closes_ok (Ok true) shape told line next first all h = record { first = first; all = all; goes_on = h }
closes_ok (Ok false) shape told line next first all h = (h.0, λ after k. h.1 after k.goes_on)
closes_ok (Err e) shape told line next first all h = tt

-- ---- how many blocks there are

completed_more : (group : Option GroupLine) (told : Told) → length (completed_by group told).blocks ≡ length told.blocks + 1
completed_more None told = length-append told.blocks (Totals told.current ∷ [])
completed_more (Some group) told = length-append told.blocks (Groups (told.sections ++ record { line = group; answers = answers_of told.current; texts = group_texts told.current } ∷ []) ∷ [])

-- there is one block more
pub completed_count : (told : Told) (count : ℕ) → count ≡ length told.blocks → length (completed told).blocks ≡ count + 1
completed_count told count e = completed_more told.group told ∙ ap (λ (n : ℕ). n + 1) (sym e)

pub done_count : (told : Told) (count : ℕ) → count ≡ length told.blocks → length (block_done told).blocks ≡ count + 1
done_count told count e = length-append told.blocks (Groups told.sections ∷ []) ∙ ap (λ (n : ℕ). n + 1) (sym e)
