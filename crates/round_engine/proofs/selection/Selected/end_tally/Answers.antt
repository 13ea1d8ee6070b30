use Rattle.std.proofs.Common.{ap, sym, subst, ◌∙◌, arith}
use Rattle.std.proofs.lemmas.Int.{ints}
use Rattle.query_model.specs.declared.query.ItemKind.TheVariants.{Max, Min}
use Rattle.query_model.specs.Answers.{answer}
use Rattle.aggregates.specs.declared.tally.Tally.{Tally}
use Rattle.aggregates.specs.Selections.{highs_in, lows_in, IsPartOf}
use Rattle.aggregates.proofs.Appending.{same_tally}
use Rattle.round_engine.proofs.SelectedBounds.{certain_highs_are, certain_lows_are, highs_are, lows_are, must_part}
use Rattle.round_engine.proofs.selection.Selected.end_tally.Goals as goal

pub least_ends-least-requires-clause-some : goal.least_ends-least-requires-clause-some
least_ends-least-requires-clause-some c = subst (λ s. IsPartOf s.must s.may) (sym c.self.view_is) (must_part c.args.known.now c.args.self.now c.requires)

pub greatest_ends-greatest-requires-clause-some : goal.greatest_ends-greatest-requires-clause-some
greatest_ends-greatest-requires-clause-some c = subst (λ s. IsPartOf s.must s.may) (sym c.self.view_is) (must_part c.args.known.now c.args.self.now c.requires)

pub returns : goal.returns
returns c =
    let column = c.args.known.now in
    let selection = c.args.self.now in
    let is = c.requires in
    let counts = c.count_tally.ensures column is in
    let least = c.least_ends-least.ensures in
    let greatest = c.greatest_ends-greatest.ensures in
    sym (same_tally _ _ _ _ _ _ _ _ _
    (ap (λ (t : Tally). t.certain) counts)
    (ap (λ (t : Tally). t.all) counts)
    (least.low ∙ ap (λ s. answer Min (lows_in column s.may)) c.self.view_is ∙ ap (answer Min) (lows_are column selection is))
    (greatest.high ∙ ap (λ s. answer Max (highs_in column s.may)) c.self.view_is ∙ ap (answer Max) (highs_are column selection is))
    (least.high ∙ ap (λ s. answer Min (highs_in column s.must)) c.self.view_is ∙ ap (answer Min) (certain_highs_are column selection is))
    (greatest.low ∙ ap (λ s. answer Max (lows_in column s.must)) c.self.view_is ∙ ap (answer Max) (certain_lows_are column selection is))
    (omega (arith, ints) ∙ ap (λ (t : Tally). t.low_sum) counts)
    (omega (arith, ints) ∙ ap (λ (t : Tally). t.high_sum) counts))
