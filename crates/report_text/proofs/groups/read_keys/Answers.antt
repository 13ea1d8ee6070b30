use Rattle.std.proofs.Common.{[], ◌∷◌, ◌++◌, IfSome, List, Option, Some, sym, ap, subst, ◌∙◌}
use Rattle.std.proofs.lemmas.Option.{none-some, same_Some}
use Rattle.std.specs.List.{All}
use Rattle.report_text.proofs.ReadKeys.{all_shown, last_read, more_shown, next_read, no_comma}
use Rattle.report_text.specs.Groups.{AreShownKeys}
use Rattle.report_text.specs.Keys.{IsShownSpan}
use Rattle.report_text.specs.Reading.{IsReadTo}
use Rattle.report_text.specs.declared.keys.ShownSpan.{ShownSpan}
use Rattle.report_text.proofs.groups.read_keys.Goals as goal

pub returns-in-None-clause-read : goal.returns-in-None-clause-read
returns-in-None-clause-read c = λ keys h e.
    (let next = next_read keys c.loop-part.spans.items c.loop-part.rest.now c.in-Some.part.now c.in-Some.next.now c.in_ok-span.field-0 (c.loop-part.invariant.read keys h e)
    (record { parted = c.in-Some.ensures.parted; whole = λ lacks. none-some _ (sym (c.in-Some.ensures.whole lacks)) }) c.in_ok-span.ensures.read in
    absurd (none-some next.first (sym c.in-None.is ∙ next.is)))

pub loop-part-preserved : goal.loop-part-preserved
loop-part-preserved c =
    let spans = c.loop-part.spans.items in
    let shown : IsShownSpan c.in-Some-2.span = subst (λ (r : Option ShownSpan). IfSome r IsShownSpan) c.in-Some-2.is c.in_ok-span.ensures.shown in
    record {
      shown = subst (All IsShownSpan) (sym c.in_ok-push-in-Some-2.ensures.items) (more_shown spans c.in-Some-2.span c.loop-part.invariant.shown shown);
      read = λ keys h e.
          (let next = next_read keys spans c.loop-part.rest.now c.in-Some.part.now c.in-Some.next.now c.in_ok-span.field-0 (c.loop-part.invariant.read keys h e)
          (record { parted = c.in-Some.ensures.parted; whole = λ lacks. none-some _ (sym (c.in-Some.ensures.whole lacks)) }) c.in_ok-span.ensures.read in
          let same = same_Some c.in-Some-2.span next.first (sym c.in-Some-2.is ∙ next.is) in
          subst (λ (read : List ShownSpan). IsReadTo keys read c.in-Some.next.now)
          (sym (c.in_ok-push-in-Some-2.ensures.items ∙ ap (λ (s : ShownSpan). spans ++ (s ∷ [])) same)) next.more);
    }

pub returns-in_ok-push-in-Some-3-clause-shown : goal.returns-in_ok-push-in-Some-3-clause-shown
returns-in_ok-push-in-Some-3-clause-shown c =
    let shown : IsShownSpan c.in-Some-3.span = subst (λ (r : Option ShownSpan). IfSome r IsShownSpan) c.in-Some-3.is c.in_ok-span-2.ensures.shown in
    subst AreShownKeys (sym (c.new.ensures ∙ c.in_ok-push-in-Some-3.ensures.items)) (all_shown c.loop-part.spans.items c.in-Some-3.span c.loop-part.invariant.shown shown)

pub returns-in_ok-push-in-Some-3-clause-read : goal.returns-in_ok-push-in-Some-3-clause-read
returns-in_ok-push-in-Some-3-clause-read c = λ keys h e.
    (let spans = c.loop-part.spans.items in
    let last = last_read keys spans c.loop-part.rest.now c.in_ok-span-2.field-0 (c.loop-part.invariant.read keys h e)
    (λ front rest lacks parts. no_comma c.around_outside.result front rest c.in_default.is (c.around_outside.ensures.parted front rest lacks parts)) c.in_ok-span-2.ensures.read in
    let same = same_Some c.in-Some-3.span last.last (sym c.in-Some-3.is ∙ last.is) in
    ap (λ (read : List ShownSpan). Some read)
    (c.new.ensures ∙ c.in_ok-push-in-Some-3.ensures.items ∙ ap (λ (s : ShownSpan). spans ++ (s ∷ [])) same ∙ sym last.split))

pub returns-in-None-2-clause-read : goal.returns-in-None-2-clause-read
returns-in-None-2-clause-read c = λ keys h e.
    (let last = last_read keys c.loop-part.spans.items c.loop-part.rest.now c.in_ok-span-2.field-0 (c.loop-part.invariant.read keys h e)
    (λ front rest lacks parts. no_comma c.around_outside.result front rest c.in_default.is (c.around_outside.ensures.parted front rest lacks parts)) c.in_ok-span-2.ensures.read in
    absurd (none-some last.last (sym c.in-None-2.is ∙ last.is)))
