use Rattle.std.proofs.Common.{ℤ, Some, ap, ◌∙◌, to_z-of_z}
use Rattle.std.proofs.lemmas.Option.{none-some}
use Rattle.report_text.proofs.EndTexts.{date_found, number_found}
use Rattle.report_text.specs.declared.forms.Form.TheVariants.{Decimals}
use Rattle.report_text.specs.declared.forms.IntervalEnd.{IntervalEnd}
use Rattle.report_text.proofs.forms.read_interval_end.Goals as goal

pub returns-in-Some-clause-read : goal.returns-in-Some-clause-read
returns-in-Some-clause-read c = λ end h e.
    (let number = c.in-Some.number in
    let w = c.in-Some.ensures.written in
    ap (λ (v : ℤ). Some (record { form = Decimals number.decimals; value = v })) (to_z-of_z w.0.fits)
    ∙ ap (λ (x : IntervalEnd). Some x) (number_found c.args.text.now number end w.0 w.1 h e))

pub returns-in-None-clause-read : goal.returns-in-None-clause-read
returns-in-None-clause-read c = λ end h e.
    date_found c.args.text.now c.read_date_end.result end (λ number can k. none-some number (c.in-None.ensures.read number can k)) c.read_date_end.ensures.read h e
