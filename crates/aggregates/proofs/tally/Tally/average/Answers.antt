use Rattle.std.proofs.Common.{ap, sym, ◌∙◌, ◌≡◌, max, cond, int_le, pos, to_z, of_z, arith}
use Rattle.std.specs.Int.{w128}
use Rattle.std.proofs.lemmas.Int.{ints}
use Rattle.query_model.specs.declared.query.ItemKind.TheVariants.{Sum}
use Rattle.aggregates.specs.declared.tally.Tally.{Tally}
use Rattle.aggregates.proofs.BoundFacts.{average_is}
use Rattle.aggregates.proofs.tally.Tally.average.Goals as goal

pub returns : goal.returns
returns c = λ ps e.
    let low : to_z w128 (of_z w128 c.least_sum.result) ≡ c.least_sum.result = omega (arith, ints) in
    let high : to_z w128 (of_z w128 c.greatest_sum.result) ≡ c.greatest_sum.result = omega (arith, ints) in
    average_is ps _ _ _ _ _ c.max-most.result c.max-fewest.result (record {
      word_is = c.nullity_of.ensures Sum ps e;
      low_is = c.quotient.ensures.num ∙ low ∙ c.least_sum.ensures ps e;
      high_is = c.quotient-2.ensures.num ∙ high ∙ c.greatest_sum.ensures ps e;
      most_is = c.max-most.ensures ∙ ap (λ (t : Tally). max t.all 1) e;
      fewest_is = c.max-fewest.ensures ∙ ap (λ (t : Tally). max t.certain 1) e;
      low_den_is = c.quotient.ensures.den ∙ ap (λ n. cond (int_le (pos 0) n) c.max-most.result c.max-fewest.result) (sym c.quotient.ensures.num);
      high_den_is = c.quotient-2.ensures.den ∙ ap (λ n. cond (int_le (pos 0) n) c.max-fewest.result c.max-most.result) (sym c.quotient-2.ensures.num);
    })
