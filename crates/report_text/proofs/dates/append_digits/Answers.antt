use Rattle.std.proofs.Common.{ℕ, ◌+◌, List, ◌++◌, length, ap, ◌∙◌, arith}
use Rattle.std.proofs.lemmas.Int.{ints}
use Rattle.std.proofs.lemmas.List.{length-append}
use Rattle.daq_table.specs.Numbers.{digits_text}
use Rattle.report_text.proofs.DateTexts.{behind_point, padded_to}
use Rattle.report_text.proofs.dates.append_digits.Goals as goal

pub returns-clause-text : goal.returns-clause-text
returns-clause-text c =
    let digits =
    behind_point c.bytes.result.now c.args.digits c.args.number _ c.requires.few.0 c.requires.small (c.bytes.ensures.text ∙ c.written_number.ensures.text)
    (omega (arith, ints, c.from.ensures)) in
    c.append.ensures.text ∙ ap (λ (t : List ℕ). c.args.text.now ++ t) digits

pub returns-clause-short : goal.returns-clause-short
returns-clause-short c =
    let digits =
    behind_point c.bytes.result.now c.args.digits c.args.number _ c.requires.few.0 c.requires.small (c.bytes.ensures.text ∙ c.written_number.ensures.text)
    (omega (arith, ints, c.from.ensures)) in
    let text = c.append.ensures.text ∙ ap (λ (t : List ℕ). c.args.text.now ++ t) digits in
    let many = padded_to c.args.digits c.args.number c.requires.few.0 c.requires.few.1 c.requires.small in
    ap length text ∙ length-append c.args.text.now (digits_text c.args.digits c.args.number) ∙ ap (λ (n : ℕ). length c.args.text.now + n) many
