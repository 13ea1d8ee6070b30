use Rattle.std.proofs.Common.{◌≡◌, ℤ, Some, FitsSigned, ap, ◌∙◌, to_z-of_z, rules, arith}
use Rattle.std.specs.Int.{w128}
use Rattle.std.proofs.lemmas.Int.{ints}
use Rattle.std.proofs.lemmas.Option.{same_Some}
use Rattle.report_text.proofs.EndTexts.{end_of_day}
use Rattle.report_text.proofs.forms.read_date_end.Goals as goal

pub returns-in-Some-clause-read : goal.returns-in-Some-clause-read
returns-in-Some-clause-read c = λ day h e.
    (let same : c.in-Some.day ≡ day = same_Some c.in-Some.day day (c.in-Some.ensures.read day h e) in
    let fits : FitsSigned w128 c.from.result = search rules in
    let from : c.from.result ≡ day = omega (arith, ints, same, c.from.ensures) in
    ap (λ (x : ℤ). Some (end_of_day x)) (to_z-of_z fits ∙ from))
