use Rattle.std.proofs.Common.{◌≡◌, ℕ, ◌<◌, ◌==◌, List, Some, decimal, length, sym, ap, subst, ◌∙◌, arith}
use Rattle.std.proofs.lemmas.Fmt.{decimal_is_IsNumeral_wide}
use Rattle.std.proofs.lemmas.Option.{none-some, same_Some}
use Rattle.std.specs.List.{after_first, before_first}
use Rattle.report_text.proofs.ReadNumbers.{around_byte}
use Rattle.report_text.specs.Numbers.{number_text}
use Rattle.report_text.proofs.NumberTexts.{rows_of_ratio, sum_of_ratio}
use Rattle.report_text.specs.declared.numbers.Number.{Number}
use Rattle.report_text.proofs.averages.read_ratio.Goals as goal

pub returns-in_err-sum-clause-read : goal.returns-in_err-sum-clause-read
returns-in_err-sum-clause-read c = λ ratio h e.
    (let front = c.around_first.ensures.before ∙ sum_of_ratio c.args.text.now ratio h e in
    absurd (none-some ratio.sum (c.in_err-sum.ensures.read ratio.sum h.sum (sym front))))

pub returns-in_err-rows-clause-read : goal.returns-in_err-rows-clause-read
returns-in_err-rows-clause-read c = λ ratio h e.
    (let rest = c.around_first.ensures.after ∙ rows_of_ratio c.args.text.now ratio h e in
    absurd (none-some ratio.rows (c.in_err-rows.ensures.read ratio.rows h.few (sym rest))))

pub returns-then-rows-eq0-clause-read : goal.returns-then-rows-eq0-clause-read
returns-then-rows-eq0-clause-read c = λ ratio h e.
    (let rest = c.around_first.ensures.after ∙ rows_of_ratio c.args.text.now ratio h e in
    let rows = same_Some c.in_ok-rows.rows ratio.rows (c.in_ok-rows.ensures.read ratio.rows h.few (sym rest)) in
    absurd (omega (arith, rows, h.some, c.if-rows-eq0.true)))

pub returns-clause-read : goal.returns-clause-read
returns-clause-read c = λ ratio h e.
    (let front = c.around_first.ensures.before ∙ sum_of_ratio c.args.text.now ratio h e in
    let rest = c.around_first.ensures.after ∙ rows_of_ratio c.args.text.now ratio h e in
    let sum = same_Some c.in_ok-sum.sum ratio.sum (c.in_ok-sum.ensures.read ratio.sum h.sum (sym front)) in
    let rows = same_Some c.in_ok-rows.rows ratio.rows (c.in_ok-rows.ensures.read ratio.rows h.few (sym rest)) in
    ap (λ (n : Number). Some (record { sum = n; rows = c.in_ok-rows.rows })) sum ∙ ap (λ (k : ℕ). Some (record { sum = ratio.sum; rows = k })) rows)

pub returns-clause-written : goal.returns-clause-written
returns-clause-written c =
    let text = c.args.text.now in
    let front : number_text c.in_ok-sum.sum ≡ before_first (λ (b : ℕ). b == 47) text = c.in_ok-sum.ensures.written.1 ∙ c.around_first.ensures.before in
    let rest : decimal c.in_ok-rows.rows ≡ after_first (λ (b : ℕ). b == 47) text = c.in_ok-rows.ensures.written ∙ c.around_first.ensures.after in
    let some = subst (λ (t : List ℕ). 0 < length t) rest (decimal_is_IsNumeral_wide c.in_ok-rows.rows (omega arith)).0.0 in
    rw (front, rest) (around_byte 47 text some)
