use Rattle.std.proofs.Common.{◌≡◌, max, cond, int_le, pos, to_z, of_z, ap, sym, subst, ◌∙◌, arith}
use Rattle.std.specs.Int.{w128}
use Rattle.std.proofs.lemmas.Int.{ints}
use Rattle.aggregates.proofs.BoundFacts.{average_is}
use Rattle.round_engine.specs.Selected.{pairs_in}
use Rattle.aggregates.specs.Selections.{highs_in, lows_in, MayHaveValues}
use Rattle.query_model.specs.Answers.{total}
use Rattle.round_engine.proofs.SelectedBounds.{all_is, certain_is, must_values}
use Rattle.round_engine.proofs.selection.Selected.average.Goals as goal

pub ends_by_kept-certain-requires-clause-values : goal.ends_by_kept-certain-requires-clause-values
ends_by_kept-certain-requires-clause-values c = subst (λ s. MayHaveValues c.args.known.now s.must) (sym c.self.view_is) (must_values c.args.known.now c.args.self.now c.requires.selection)

pub sum_end-low-requires-clause-certain : goal.sum_end-low-requires-clause-certain
sum_end-low-requires-clause-certain c =
    let same : to_z w128 (of_z w128 c.ends_by_kept-certain.result.low) ≡ c.ends_by_kept-certain.result.low = omega (arith, ints, c.ends_by_kept-certain.ensures.few.0) in
    same ∙ c.ends_by_kept-certain.ensures.low ∙ ap (λ s. total (lows_in c.args.known.now s.must)) c.self.view_is

pub sum_end-high-requires-clause-certain : goal.sum_end-high-requires-clause-certain
sum_end-high-requires-clause-certain c =
    let same : to_z w128 (of_z w128 c.ends_by_kept-certain.result.high) ≡ c.ends_by_kept-certain.result.high = omega (arith, ints, c.ends_by_kept-certain.ensures.few.1) in
    same ∙ c.ends_by_kept-certain.ensures.high ∙ ap (λ s. total (highs_in c.args.known.now s.must)) c.self.view_is

pub returns-clause-bound : goal.returns-clause-bound
returns-clause-bound c =
    let column = c.args.known.now in
    let selection = c.args.self.now in
    let is = c.requires.selection in
    let low : to_z w128 (of_z w128 c.sum_end-low.result) ≡ c.sum_end-low.result = omega (arith, ints) in
    let high : to_z w128 (of_z w128 c.sum_end-high.result) ≡ c.sum_end-high.result = omega (arith, ints) in
    average_is (pairs_in column selection) _ _ _ _ _ c.max-most.result c.max-fewest.result (record {
      word_is = c.nullity.ensures column is;
      low_is = c.quotient.ensures.num ∙ low ∙ c.sum_end-low.ensures.sum;
      high_is = c.quotient-2.ensures.num ∙ high ∙ c.sum_end-high.ensures.sum;
      most_is = c.max-most.ensures ∙ ap (λ n. max n 1) (c.counts-counts.ensures.most ∙ all_is column selection is);
      fewest_is = c.max-fewest.ensures ∙ ap (λ n. max n 1) (c.counts-counts.ensures.fewest ∙ certain_is column selection is);
      low_den_is = c.quotient.ensures.den ∙ ap (λ n. cond (int_le (pos 0) n) c.max-most.result c.max-fewest.result) (sym c.quotient.ensures.num);
      high_den_is = c.quotient-2.ensures.den ∙ ap (λ n. cond (int_le (pos 0) n) c.max-fewest.result c.max-most.result) (sym c.quotient-2.ensures.num);
    })
