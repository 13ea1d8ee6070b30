use Rattle.std.proofs.Common.{◌≡◌, pos, to_z, of_z, ap, sym, subst, ◌∙◌, arith}
use Rattle.std.specs.Int.{w128}
use Rattle.std.specs.Option.{unwrap_or}
use Rattle.std.proofs.lemmas.Int.{ints}
use Rattle.aggregates.specs.Selections.{highs_in, lows_in, IsPartOf}
use Rattle.query_model.specs.declared.query.ItemKind.TheVariants.{Min}
use Rattle.query_model.specs.Answers.{answer}
use Rattle.round_engine.proofs.SelectedBounds.{least_is, must_part, same_bound}
use Rattle.round_engine.proofs.selection.Selected.least.Goals as goal

pub least_by_kept-ends-requires-clause-some : goal.least_by_kept-ends-requires-clause-some
least_by_kept-ends-requires-clause-some c = subst (λ s. IsPartOf s.must s.may) (sym c.self.view_is) (must_part c.args.known.now c.args.self.now c.requires.selection)

pub inner_end-requires-clause-certain : goal.inner_end-requires-clause-certain
inner_end-requires-clause-certain c = c.least_by_kept-ends.ensures.high ∙ ap (λ s. answer Min (highs_in c.args.known.now s.must)) c.self.view_is

pub returns-clause-bound : goal.returns-clause-bound
returns-clause-bound c =
    let same : to_z w128 (of_z w128 c.unwrap_or.result) ≡ c.unwrap_or.result = omega (arith, ints) in
    let other : to_z w128 (of_z w128 c.inner_end.result) ≡ c.inner_end.result = omega (arith, ints) in
    same_bound _ _ _ _ _ _ (c.nullity.ensures c.args.known.now c.requires.selection) (same ∙ c.unwrap_or.ensures ∙ ap (λ o. unwrap_or o (pos 0)) (c.least_by_kept-ends.ensures.low ∙ ap (λ s. answer Min (lows_in c.args.known.now s.may)) c.self.view_is) ∙ least_is c.args.known.now c.args.self.now c.requires.selection) (other ∙ c.inner_end.ensures)
