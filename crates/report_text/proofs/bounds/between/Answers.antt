use Rattle.std.proofs.Common.{◌≡◌, Some, sym, ap, ◌∙◌, ◌≤ℤ◌}
use Rattle.std.proofs.lemmas.Option.{none-some, same_Some}
use Rattle.report_text.proofs.ShownTexts.{bound_is, ends_of, high_can, high_of, low_can, low_of}
use Rattle.report_text.specs.declared.bounds.ShownBound.{ShownBound}
use Rattle.report_text.specs.declared.forms.IntervalEnd.{IntervalEnd}
use Rattle.report_text.proofs.bounds.between.Goals as goal

pub returns-in_err-low-clause-read : goal.returns-in_err-low-clause-read
returns-in_err-low-clause-read c = λ shown h null low high.
    absurd (none-some (low_of shown) (c.in_err-low.ensures.read (low_of shown) (low_can shown h) low))

pub returns-in_err-high-clause-read : goal.returns-in_err-high-clause-read
returns-in_err-high-clause-read c = λ shown h null low high.
    absurd (none-some (high_of shown) (c.in_err-high.ensures.read (high_of shown) (high_can shown h) high))

pub returns-clause-read : goal.returns-clause-read
returns-clause-read c = λ shown h null low high.
    (let is_low = same_Some c.in_ok-low.low (low_of shown) (c.in_ok-low.ensures.read (low_of shown) (low_can shown h) low) in
    let is_high = same_Some c.in_ok-high.high (high_of shown) (c.in_ok-high.ensures.read (high_of shown) (high_can shown h) high) in
    let form : c.in_ok-low.low.form ≡ c.in_ok-high.high.form = ap (λ (n : IntervalEnd). n.form) is_low ∙ sym (ap (λ (n : IntervalEnd). n.form) is_high) in
    let in_order : c.in_ok-low.low.value ≤ℤ c.in_ok-high.high.value = rw (is_low, is_high) (ends_of shown c.args.null c.requires null h).ordered in
    c.ordered.ensures.is form in_order ∙ ap (λ (x : ShownBound). Some x) (bound_is shown c.args.null c.in_ok-low.low c.in_ok-high.high is_low is_high null))
