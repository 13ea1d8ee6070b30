use Rattle.std.proofs.Common.{sym, ap, ◌∙◌}
use Rattle.std.proofs.lemmas.Option.{none-some, same_Some}
use Rattle.report_text.proofs.ShownTexts.{high_ratio_can, low_ratio_can, same_ratios, same_single}
use Rattle.report_text.proofs.NumberTexts.{ratio_is_end}
use Rattle.report_text.specs.Averages.{is_same_ratio, ratio_text}
use Rattle.report_text.specs.declared.averages.ShownAverage.{ShownAverage}
use Rattle.report_text.proofs.averages.read_average.Goals as goal

pub returns-in_err-layout-clause-read : goal.returns-in_err-layout-clause-read
returns-in_err-layout-clause-read c = λ shown h e.
    absurd (c.in_err-layout.ensures.read shown.null (is_same_ratio shown.low shown.high) (ratio_text shown.low) (ratio_text shown.high)
    (ratio_is_end shown.low (low_ratio_can shown h)) (ratio_is_end shown.high (high_ratio_can shown h)) (same_ratios shown h) e)

pub returns-in_err-shown-clause-read : goal.returns-in_err-shown-clause-read
returns-in_err-shown-clause-read c = λ shown h e.
    (let laid = c.in_ok-layout.ensures.read shown.null (is_same_ratio shown.low shown.high) (ratio_text shown.low) (ratio_text shown.high)
    (ratio_is_end shown.low (low_ratio_can shown h)) (ratio_is_end shown.high (high_ratio_can shown h)) (same_ratios shown h) e in
    absurd (none-some shown (c.in_err-shown.ensures.read (is_same_ratio shown.low shown.high) shown h laid)))

pub returns-then-is_laid_alike-clause-read : goal.returns-then-is_laid_alike-clause-read
returns-then-is_laid_alike-clause-read c = λ shown h e.
    (let laid = c.in_ok-layout.ensures.read shown.null (is_same_ratio shown.low shown.high) (ratio_text shown.low) (ratio_text shown.high)
    (ratio_is_end shown.low (low_ratio_can shown h)) (ratio_is_end shown.high (high_ratio_can shown h)) (same_ratios shown h) e in
    c.in_ok-shown.ensures.read (is_same_ratio shown.low shown.high) shown h laid)

pub returns-else-is_laid_alike-clause-read : goal.returns-else-is_laid_alike-clause-read
returns-else-is_laid_alike-clause-read c = λ shown h e.
    (let laid = c.in_ok-layout.ensures.read shown.null (is_same_ratio shown.low shown.high) (ratio_text shown.low) (ratio_text shown.high)
    (ratio_is_end shown.low (low_ratio_can shown h)) (ratio_is_end shown.high (high_ratio_can shown h)) (same_ratios shown h) e in
    let same = same_Some c.in_ok-shown.shown shown (c.in_ok-shown.ensures.read (is_same_ratio shown.low shown.high) shown h laid) in
    let word = same_single shown c.in_ok-layout.layout.null c.in_ok-layout.layout.single h laid.word laid.single_so c.in_ok-layout.ensures.nothing in
    let yes = c.if-is_laid_alike.ensures.yes (word ∙ sym (ap (λ (s : ShownAverage). is_same_ratio s.low s.high) same)) in
    absurd cc)
