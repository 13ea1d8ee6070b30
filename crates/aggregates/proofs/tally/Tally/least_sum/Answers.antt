use Rattle.std.proofs.Common.{◌≡◌, to_z, of_z, sym, ◌∙◌, ap, arith, map, Some}
use Rattle.std.specs.Int.{w128}
use Rattle.std.proofs.lemmas.Int.{ints}
use Rattle.query_model.specs.declared.query.ItemKind.TheVariants.{Min}
use Rattle.query_model.specs.Answers.{answer, total}
use Rattle.query_model.specs.Bounds.{certain_count, lows, low_share}
use Rattle.aggregates.specs.declared.tally.Tally.{Tally}
use Rattle.aggregates.proofs.Appending.{if_none}
use Rattle.aggregates.proofs.BoundFacts.{lone_low, low_sum_stands, same_numbers}
use Rattle.aggregates.proofs.tally.Tally.least_sum.Goals as goal
use Rattle.aggregates.proofs.tally.Tally.least_sum.Goals.{in_default-via-in-Some+then-self-eq0+else-low-gt0, in_default-via-in-Some+else-self-eq0, in_default-via-in_default}

pub returns-in-Some : goal.returns-in-Some
returns-in-Some c = λ ps e.
    let certain : c.args.self.certain ≡ certain_count ps = ap (λ (t : Tally). t.certain) e in
    let none : certain_count ps ≡ 0 = omega (arith, certain) in
    let low : Some c.in-Some.low ≡ answer Min (lows ps) = sym c.in-Some.is ∙ ap (λ (t : Tally). t.least_low) e ∙ if_none _ (answer Min (lows ps)) none in
    let same : to_z w128 (of_z w128 c.in-Some.low) ≡ c.in-Some.low = omega (arith, ints) in
    same ∙ lone_low ps c.in-Some.low low none (omega (arith, ints))

pub returns-in_default : goal.returns-in_default
returns-in_default c = λ ps e.
    let certain : c.args.self.certain ≡ certain_count ps = ap (λ (t : Tally). t.certain) e in
    let sum : c.args.self.low_sum ≡ total (map low_share ps) = ap (λ (t : Tally). t.low_sum) e in
    let same : to_z w128 (of_z w128 c.args.self.low_sum) ≡ c.args.self.low_sum = omega (arith, ints) in
    same ∙ sum ∙ low_sum_stands ps (λ none low is. let least : c.args.self.least_low ≡ answer Min (lows ps) = ap (λ (t : Tally). t.least_low) e ∙ if_none _ _ none in elim c.in_default.branch [
      | in_default-via-in-Some+then-self-eq0+else-low-gt0 w ↦ (
          let found : low ≡ w.in-Some.low = same_numbers low w.in-Some.low (is ∙ sym least ∙ w.in-Some.is) in
          omega (arith, ints, found)
          )
      | in_default-via-in-Some+else-self-eq0 w ↦ absurd (omega (arith, certain, none))
      | in_default-via-in_default w ↦ absurd (w.in_default.not-Some low (least ∙ sym is))
    ])
