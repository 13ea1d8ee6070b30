use Rattle.std.proofs.Common.{ap, ◌∙◌, ◌≡◌, arith, to_z, of_z, pos}
use Rattle.std.specs.Int.{w128}
use Rattle.std.specs.Option.{option_or, unwrap_or}
use Rattle.std.proofs.lemmas.Int.{ints}
use Rattle.aggregates.specs.declared.tally.Tally.{Tally}
use Rattle.aggregates.proofs.BoundFacts.{low_of_greatest_is}
use Rattle.aggregates.proofs.tally.Tally.low_of_greatest.Goals as goal

pub returns : goal.returns
returns c = λ ps e.
    let same : to_z w128 (of_z w128 c.unwrap_or.result) ≡ c.unwrap_or.result = omega (arith, ints) in
    same ∙ c.unwrap_or.ensures ∙ ap (λ o. unwrap_or o (pos 0)) c.or.ensures
    ∙ ap (λ (t : Tally). unwrap_or (option_or t.greatest_certain_low t.least_low) (pos 0)) e ∙ low_of_greatest_is ps
