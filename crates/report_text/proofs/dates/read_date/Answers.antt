use Rattle.std.proofs.Common.{◌≡◌, ℤ, Some, FitsSigned, ap, ◌∙◌, to_z-of_z, rules, arith, w64}
use Rattle.std.proofs.lemmas.Int.{ints}
use Rattle.daq_table.specs.ValueTexts.{text_of_date}
use Rattle.report_text.proofs.DateTexts.{date_reads}
use Rattle.report_text.proofs.ShownTexts.{other_text}
use Rattle.report_text.proofs.dates.read_date.Goals as goal

pub returns-in_err-day-clause-read : goal.returns-in_err-day-clause-read
returns-in_err-day-clause-read c = λ day h e. absurd (c.in_err-day.ensures (date_reads c.args.text.now day h e).0)

pub returns-then-not-is_day-clause-read : goal.returns-then-not-is_day-clause-read
returns-then-not-is_day-clause-read c = λ day h e.
    (let same : c.in_ok-day.day ≡ day = c.in_ok-day.ensures.1 ∙ (date_reads c.args.text.now day h e).1 in
    let yes = c.if-not-is_day.ensures.yes (omega (arith, ints, same, h.0, c.from.ensures), omega (arith, ints, same, h.1, c.from.ensures)) in
    absurd cc)

pub returns-then-eq-clause-read : goal.returns-then-eq-clause-read
returns-then-eq-clause-read c = λ day h e.
    (let same : c.in_ok-day.day ≡ day = c.in_ok-day.ensures.1 ∙ (date_reads c.args.text.now day h e).1 in
    let fits : FitsSigned w64 c.in_ok-day.day = search rules in
    ap (λ (x : ℤ). Some x) (to_z-of_z fits ∙ same))

pub returns-else-eq-clause-read : goal.returns-else-eq-clause-read
returns-else-eq-clause-read c = λ day h e.
    (let same : c.in_ok-day.day ≡ day = c.in_ok-day.ensures.1 ∙ (date_reads c.args.text.now day h e).1 in
    let fits : FitsSigned w64 c.in_ok-day.day = search rules in
    absurd (other_text c.bytes.result.now c.args.text.now c.if-eq.ensures (c.bytes.ensures.text ∙ c.written_date.ensures.text ∙ ap text_of_date (to_z-of_z fits ∙ same) ∙ e)))
