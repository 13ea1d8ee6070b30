use Rattle.std.proofs.Common.{◌≡◌, sym, ap, ◌∙◌, rules, to_z, of_z}
use Rattle.std.proofs.lemmas.Int.{to_z-of_z}
use Rattle.std.specs.Int.{w128}
use Rattle.interval_calc.specs.Intervals.{interval_of}
use Rattle.query_model.specs.Meaning.{compares}
use Rattle.query_model.specs.Truths.{truth_over}
use Rattle.kleene_filter.proofs.Parting.{level_none, level_shared}
use Rattle.kleene_filter.proofs.parted.truth_at_equal.Goals as goal

pub returns-in-Some : goal.returns-in-Some
returns-in-Some c =
    let op = c.args.op in
    let v = c.args.value in
    let fits : to_z w128 (of_z w128 v) ≡ v = to_z-of_z w128 v (search rules) in
    level_shared c.args.column.now (λ x. compares op x v) v c.args.equal.now c.in-Some.row c.compared_with.result c.requires (sym c.in-Some.ensures)
    (ap (λ i. truth_over i (λ x. compares op x v)) (sym c.range.ensures.range) ∙ ap (λ n. truth_over (interval_of c.range.result) (λ x. compares op x n)) (sym fits) ∙ sym c.compared_with.ensures)

pub returns-in-None : goal.returns-in-None
returns-in-None c = level_none c.args.column.now (λ x. compares c.args.op x c.args.value) c.args.value c.args.equal.now _ c.requires (sym c.in-None.ensures)
