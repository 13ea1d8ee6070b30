use Rattle.std.proofs.Common.{◌≡◌, ap, ◌∙◌, rules, to_z, of_z}
use Rattle.std.proofs.lemmas.Int.{to_z-of_z}
use Rattle.std.specs.Int.{w128}
use Rattle.interval_calc.specs.Intervals.{interval_of, only}
use Rattle.interval_calc.proofs.Conversions.{same_interval}
use Rattle.query_model.specs.Meaning.{compares}
use Rattle.query_model.specs.Truths.{truth_over_both}
use Rattle.kleene_filter.proofs.TestsByEnds.{against_one}
use Rattle.kleene_filter.proofs.ranges.compared_with.Goals as goal

pub returns : goal.returns
returns c =
    let op = c.args.op in
    let v = c.args.number in
    let i = interval_of c.args.range in
    let fits : to_z w128 (of_z w128 v) ≡ v = to_z-of_z w128 v (search rules) in
    let one : interval_of c.exactly.result ≡ only v = same_interval (interval_of c.exactly.result) (only v) (c.exactly.ensures.lo ∙ fits) (c.exactly.ensures.hi ∙ fits) in
    c.compared.ensures ∙ ap (λ j. truth_over_both i j (compares op)) one ∙ against_one op i v c.args.range.ordered
