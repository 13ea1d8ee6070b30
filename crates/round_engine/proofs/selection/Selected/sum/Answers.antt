use Rattle.std.proofs.Common.{◌≡◌, to_z, of_z, ap, sym, subst, ◌∙◌, arith}
use Rattle.std.specs.Int.{w128}
use Rattle.std.proofs.lemmas.Int.{ints}
use Rattle.aggregates.specs.Selections.{highs_in, lows_in, MayHaveValues}
use Rattle.query_model.specs.Answers.{total}
use Rattle.round_engine.proofs.SelectedBounds.{must_values, same_bound}
use Rattle.round_engine.proofs.selection.Selected.sum.Goals as goal

pub ends_by_kept-certain-requires-clause-values : goal.ends_by_kept-certain-requires-clause-values
ends_by_kept-certain-requires-clause-values c = subst (λ s. MayHaveValues c.args.known.now s.must) (sym c.self.view_is) (must_values c.args.known.now c.args.self.now c.requires.selection)

pub sum_end-requires-clause-certain : goal.sum_end-requires-clause-certain
sum_end-requires-clause-certain c =
    let same : to_z w128 (of_z w128 c.ends_by_kept-certain.result.low) ≡ c.ends_by_kept-certain.result.low = omega (arith, ints, c.ends_by_kept-certain.ensures.few.0) in
    same ∙ c.ends_by_kept-certain.ensures.low ∙ ap (λ s. total (lows_in c.args.known.now s.must)) c.self.view_is

pub sum_end-requires-2-clause-certain : goal.sum_end-requires-2-clause-certain
sum_end-requires-2-clause-certain c =
    let same : to_z w128 (of_z w128 c.ends_by_kept-certain.result.high) ≡ c.ends_by_kept-certain.result.high = omega (arith, ints, c.ends_by_kept-certain.ensures.few.1) in
    same ∙ c.ends_by_kept-certain.ensures.high ∙ ap (λ s. total (highs_in c.args.known.now s.must)) c.self.view_is

pub returns-clause-bound : goal.returns-clause-bound
returns-clause-bound c =
    let low : to_z w128 (of_z w128 c.sum_end.result) ≡ c.sum_end.result = omega (arith, ints) in
    let high : to_z w128 (of_z w128 c.sum_end-2.result) ≡ c.sum_end-2.result = omega (arith, ints) in
    same_bound _ _ _ _ _ _ (c.nullity.ensures c.args.known.now c.requires.selection) (low ∙ c.sum_end.ensures.sum) (high ∙ c.sum_end-2.ensures.sum)
