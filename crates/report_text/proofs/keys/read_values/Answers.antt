use Rattle.std.proofs.Common.{◌≡◌, ◌≤ℤ◌, Some, sym, ap, ◌∙◌}
use Rattle.std.proofs.lemmas.Option.{none-some, same_Some}
use Rattle.report_text.proofs.KeyTexts.{high_value, low_value}
use Rattle.report_text.proofs.ReadKeys.{values_are_read}
use Rattle.report_text.specs.declared.forms.IntervalEnd.{IntervalEnd}
use Rattle.report_text.specs.declared.keys.ShownEnds.TheVariants.{Values}
use Rattle.report_text.specs.declared.keys.ValueEnds.{ValueEnds}
use Rattle.report_text.proofs.keys.read_values.Goals as goal

pub returns-in_err-low-clause-read : goal.returns-in_err-low-clause-read
returns-in_err-low-clause-read c = λ ends h low high.
    absurd (none-some (low_value ends) (c.in_err-low.ensures.read (low_value ends) h.low low))

pub returns-in_err-high-clause-read : goal.returns-in_err-high-clause-read
returns-in_err-high-clause-read c = λ ends h low high.
    absurd (none-some (high_value ends) (c.in_err-high.ensures.read (high_value ends) h.high high))

pub returns-clause-read : goal.returns-clause-read
returns-clause-read c = λ ends h low high.
    (let is_low = same_Some c.in_ok-low.low (low_value ends) (c.in_ok-low.ensures.read (low_value ends) h.low low) in
    let is_high = same_Some c.in_ok-high.high (high_value ends) (c.in_ok-high.ensures.read (high_value ends) h.high high) in
    let form : c.in_ok-low.low.form ≡ c.in_ok-high.high.form = ap (λ (n : IntervalEnd). n.form) is_low ∙ sym (ap (λ (n : IntervalEnd). n.form) is_high) in
    let in_order : c.in_ok-low.low.value ≤ℤ c.in_ok-high.high.value = rw (is_low, is_high) h.ordered in
    c.values_between.ensures.is form in_order
    ∙ ap (λ (x : ValueEnds). Some (Values x)) (values_are_read ends c.in_ok-low.low c.in_ok-high.high is_low is_high))
