use Rattle.std.proofs.Common.{◌≡◌, to_z, of_z, sym, ◌∙◌, ap, arith, map, Some}
use Rattle.std.specs.Int.{w128}
use Rattle.std.proofs.lemmas.Int.{ints}
use Rattle.query_model.specs.declared.query.ItemKind.TheVariants.{Max}
use Rattle.query_model.specs.Answers.{answer, total}
use Rattle.query_model.specs.Bounds.{certain_count, highs, high_share}
use Rattle.aggregates.specs.declared.tally.Tally.{Tally}
use Rattle.aggregates.proofs.Appending.{if_none}
use Rattle.aggregates.proofs.BoundFacts.{lone_high, high_sum_stands, same_numbers}
use Rattle.aggregates.proofs.tally.Tally.greatest_sum.Goals as goal
use Rattle.aggregates.proofs.tally.Tally.greatest_sum.Goals.{in_default-via-in-Some+then-self-eq0+else-high-lt0, in_default-via-in-Some+else-self-eq0, in_default-via-in_default}

pub returns-in-Some : goal.returns-in-Some
returns-in-Some c = λ ps e.
    let certain : c.args.self.certain ≡ certain_count ps = ap (λ (t : Tally). t.certain) e in
    let none : certain_count ps ≡ 0 = omega (arith, certain) in
    let high : Some c.in-Some.high ≡ answer Max (highs ps) = sym c.in-Some.is ∙ ap (λ (t : Tally). t.greatest_high) e ∙ if_none _ (answer Max (highs ps)) none in
    let same : to_z w128 (of_z w128 c.in-Some.high) ≡ c.in-Some.high = omega (arith, ints) in
    same ∙ lone_high ps c.in-Some.high high none (omega (arith, ints))

pub returns-in_default : goal.returns-in_default
returns-in_default c = λ ps e.
    let certain : c.args.self.certain ≡ certain_count ps = ap (λ (t : Tally). t.certain) e in
    let sum : c.args.self.high_sum ≡ total (map high_share ps) = ap (λ (t : Tally). t.high_sum) e in
    let same : to_z w128 (of_z w128 c.args.self.high_sum) ≡ c.args.self.high_sum = omega (arith, ints) in
    same ∙ sum ∙ high_sum_stands ps (λ none high is. let greatest : c.args.self.greatest_high ≡ answer Max (highs ps) = ap (λ (t : Tally). t.greatest_high) e ∙ if_none _ _ none in elim c.in_default.branch [
      | in_default-via-in-Some+then-self-eq0+else-high-lt0 w ↦ (
          let found : high ≡ w.in-Some.high = same_numbers high w.in-Some.high (is ∙ sym greatest ∙ w.in-Some.is) in
          omega (arith, ints, found)
          )
      | in_default-via-in-Some+else-self-eq0 w ↦ absurd (omega (arith, certain, none))
      | in_default-via-in_default w ↦ absurd (w.in_default.not-Some high (greatest ∙ sym is))
    ])
