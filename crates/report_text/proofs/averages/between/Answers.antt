use Rattle.std.proofs.Common.{◌≡◌, Some, sym, ap, ◌∙◌}
use Rattle.std.proofs.lemmas.Option.{none-some, same_Some}
use Rattle.report_text.proofs.ShownTexts.{average_is, decimals_same, high_ratio_can, low_ratio_can}
use Rattle.report_text.specs.declared.averages.Ratio.{Ratio}
use Rattle.report_text.specs.declared.averages.ShownAverage.{ShownAverage}
use Rattle.report_text.proofs.averages.between.Goals as goal

pub returns-in_err-low-clause-read : goal.returns-in_err-low-clause-read
returns-in_err-low-clause-read c = λ shown h null low high.
    absurd (none-some shown.low (c.in_err-low.ensures.read shown.low (low_ratio_can shown h) low))

pub returns-in_err-high-clause-read : goal.returns-in_err-high-clause-read
returns-in_err-high-clause-read c = λ shown h null low high.
    absurd (none-some shown.high (c.in_err-high.ensures.read shown.high (high_ratio_can shown h) high))

pub returns-clause-read : goal.returns-clause-read
returns-clause-read c = λ shown h null low high.
    (let is_low = same_Some c.in_ok-low.low shown.low (c.in_ok-low.ensures.read shown.low (low_ratio_can shown h) low) in
    let is_high = same_Some c.in_ok-high.high shown.high (c.in_ok-high.ensures.read shown.high (high_ratio_can shown h) high) in
    let decimals : c.in_ok-low.low.sum.decimals ≡ c.in_ok-high.high.sum.decimals =
    ap (λ (r : Ratio). r.sum.decimals) is_low ∙ decimals_same shown h ∙ sym (ap (λ (r : Ratio). r.sum.decimals) is_high) in
    c.alike.ensures.is decimals ∙ ap (λ (x : ShownAverage). Some x) (average_is shown c.args.null c.in_ok-low.low c.in_ok-high.high is_low is_high null))
