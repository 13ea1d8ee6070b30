use Rattle.std.proofs.Common.{sym, ap, ◌∙◌}
use Rattle.std.proofs.lemmas.Option.{none-some, same_Some}
use Rattle.std.specs.Ordering.{int_eq}
use Rattle.report_text.proofs.ShownTexts.{equal_ends, high_end, low_end, single_is}
use Rattle.report_text.specs.Bounds.{high_text, low_text}
use Rattle.report_text.specs.declared.bounds.ShownBound.{ShownBound}
use Rattle.report_text.proofs.bounds.read_bound.Goals as goal

pub returns-in_err-layout-clause-read : goal.returns-in_err-layout-clause-read
returns-in_err-layout-clause-read c = λ shown h e.
    absurd (c.in_err-layout.ensures.read shown.bound.null (int_eq shown.bound.lo shown.bound.hi) (low_text shown) (high_text shown) (low_end shown h) (high_end shown h) (equal_ends shown) e)

pub returns-in_err-shown-clause-read : goal.returns-in_err-shown-clause-read
returns-in_err-shown-clause-read c = λ shown h e.
    (let laid = c.in_ok-layout.ensures.read shown.bound.null (int_eq shown.bound.lo shown.bound.hi) (low_text shown) (high_text shown) (low_end shown h) (high_end shown h) (equal_ends shown) e in
    absurd (none-some shown (c.in_err-shown.ensures.read (int_eq shown.bound.lo shown.bound.hi) shown h laid)))

pub returns-then-is_laid_alike-clause-read : goal.returns-then-is_laid_alike-clause-read
returns-then-is_laid_alike-clause-read c = λ shown h e.
    (let laid = c.in_ok-layout.ensures.read shown.bound.null (int_eq shown.bound.lo shown.bound.hi) (low_text shown) (high_text shown) (low_end shown h) (high_end shown h) (equal_ends shown) e in
    c.in_ok-shown.ensures.read (int_eq shown.bound.lo shown.bound.hi) shown h laid)

pub returns-else-is_laid_alike-clause-read : goal.returns-else-is_laid_alike-clause-read
returns-else-is_laid_alike-clause-read c = λ shown h e.
    (let laid = c.in_ok-layout.ensures.read shown.bound.null (int_eq shown.bound.lo shown.bound.hi) (low_text shown) (high_text shown) (low_end shown h) (high_end shown h) (equal_ends shown) e in
    let same = same_Some c.in_ok-shown.shown shown (c.in_ok-shown.ensures.read (int_eq shown.bound.lo shown.bound.hi) shown h laid) in
    let word = single_is shown c.in_ok-layout.layout.null c.in_ok-layout.layout.single h laid.word laid.single_so c.in_ok-layout.ensures.nothing in
    let yes = c.if-is_laid_alike.ensures.yes (word ∙ sym (ap (λ (s : ShownBound). int_eq s.bound.lo s.bound.hi) same)) in
    absurd cc)
