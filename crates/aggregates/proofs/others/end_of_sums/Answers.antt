use Rattle.std.proofs.Common.{◌≡◌, to_z, of_z, sym, ap, ◌∙◌, arith}
use Rattle.std.specs.Int.{w128}
use Rattle.std.proofs.lemmas.Int.{ints}
use Rattle.aggregates.specs.declared.ends.End.{End}
use Rattle.aggregates.specs.Selections.{ends_in}
use Rattle.query_model.specs.Answers.{total}
use Rattle.aggregates.proofs.others.end_of_sums.Goals as goal

pub returns-in-Low-clause-sum : goal.returns-in-Low-clause-sum
returns-in-Low-clause-sum c = λ mask long values are.
    let same : to_z w128 (of_z w128 c.ends_of_sums-ends.result.low) ≡ c.ends_of_sums-ends.result.low = omega (arith, ints, c.ends_of_sums-ends.ensures.few.0) in
    same ∙ c.ends_of_sums-ends.ensures.low mask long values are ∙ ap (λ (e : End). total (ends_in e c.args.known.now mask)) (sym c.in-Low.is)

pub returns-in-High-clause-sum : goal.returns-in-High-clause-sum
returns-in-High-clause-sum c = λ mask long values are.
    let same : to_z w128 (of_z w128 c.ends_of_sums-ends.result.high) ≡ c.ends_of_sums-ends.result.high = omega (arith, ints, c.ends_of_sums-ends.ensures.few.1) in
    same ∙ c.ends_of_sums-ends.ensures.high mask long values are ∙ ap (λ (e : End). total (ends_in e c.args.known.now mask)) (sym c.in-High.is)
