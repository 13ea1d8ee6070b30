use Rattle.std.proofs.Common.{◌≡◌, ℤ, pos, FitsSigned, rules, ap, ◌∙◌, to_z, of_z}
use Rattle.std.proofs.lemmas.Int.{to_z-of_z}
use Rattle.std.specs.Int.{w128, int_div_euclid, int_rem_euclid}
use Rattle.report_parts.proofs.Splits.{split_of}
use Rattle.report_parts.proofs.near.whole_part.Goals as goal

pub returns : goal.returns
returns c =
    let num = c.args.fraction.num in
    let whole_fits : FitsSigned w128 c.div_euclid.result = search rules in
    let rest_fits : FitsSigned w128 c.rem_euclid.result = search rules in
    let num_fits : FitsSigned w128 num = search rules in
    let den_fits : FitsSigned w128 c.from-den.result = search rules in
    let shown : to_z w128 (of_z w128 num) ≡ num = to_z-of_z w128 num num_fits in
    let den : to_z w128 (of_z w128 c.from-den.result) ≡ pos c.args.fraction.den = to_z-of_z w128 c.from-den.result den_fits ∙ c.from-den.ensures in
    split_of num (to_z w128 (of_z w128 c.div_euclid.result)) (to_z w128 (of_z w128 c.rem_euclid.result)) c.args.fraction.den c.args.fraction.divisible
    (to_z-of_z w128 c.div_euclid.result whole_fits ∙ c.div_euclid.ensures
    ∙ ap (λ (z : ℤ). int_div_euclid z (to_z w128 (of_z w128 c.from-den.result))) shown ∙ ap (λ (z : ℤ). int_div_euclid num z) den)
    (to_z-of_z w128 c.rem_euclid.result rest_fits ∙ c.rem_euclid.ensures.value
    ∙ ap (λ (z : ℤ). int_rem_euclid z (to_z w128 (of_z w128 c.from-den.result))) shown ∙ ap (λ (z : ℤ). int_rem_euclid num z) den)
