use Rattle.std.proofs.Common.{◌≡◌, ◌==◌, if◌then◌else◌, None, to_z, of_z, ap, sym, subst, ◌∙◌, arith}
use Rattle.std.specs.Int.{w128}
use Rattle.std.proofs.lemmas.Int.{ints}
use Rattle.query_model.specs.declared.query.ItemKind.TheVariants.{Max, Min}
use Rattle.query_model.specs.Answers.{answer, total}
use Rattle.query_model.specs.Bounds.{highs, lows}
use Rattle.aggregates.specs.declared.tally.Tally.{Tally}
use Rattle.aggregates.specs.Selections.{MayHaveValues, highs_in, lows_in}
use Rattle.aggregates.proofs.Appending.{same_tally}
use Rattle.round_engine.specs.Selected.{pairs_in}
use Rattle.round_engine.proofs.SelectedBounds.{must_values}
use Rattle.round_engine.proofs.selection.Selected.sum_tally.Goals as goal

pub ends_of_cell-sums-requires-clause-values : goal.ends_of_cell-sums-requires-clause-values
ends_of_cell-sums-requires-clause-values c = subst (λ s. MayHaveValues c.args.known.now s.must) (sym c.self.view_is) (must_values c.args.known.now c.args.self.now c.requires.selection)

pub share-requires-clause-certain : goal.share-requires-clause-certain
share-requires-clause-certain c =
    let same : to_z w128 (of_z w128 c.ends_of_cell-sums.result.low) ≡ c.ends_of_cell-sums.result.low = omega (arith, ints, c.ends_of_cell-sums.ensures.few.0) in
    same ∙ c.ends_of_cell-sums.ensures.low ∙ ap (λ s. total (lows_in c.args.known.now s.must)) c.self.view_is

pub share-requires-2-clause-certain : goal.share-requires-2-clause-certain
share-requires-2-clause-certain c =
    let same : to_z w128 (of_z w128 c.ends_of_cell-sums.result.high) ≡ c.ends_of_cell-sums.result.high = omega (arith, ints, c.ends_of_cell-sums.ensures.few.1) in
    same ∙ c.ends_of_cell-sums.ensures.high ∙ ap (λ s. total (highs_in c.args.known.now s.must)) c.self.view_is

pub returns-clause-tally : goal.returns-clause-tally
returns-clause-tally c =
    let column = c.args.known.now in
    let selection = c.args.self.now in
    let is = c.requires.selection in
    let counts = c.count_tally-counts.ensures column is in
    let certain = ap (λ (t : Tally). t.certain) counts in
    let low : to_z w128 (of_z w128 c.share.result) ≡ c.share.result = omega (arith, ints) in
    let high : to_z w128 (of_z w128 c.share-2.result) ≡ c.share-2.result = omega (arith, ints) in
    sym (same_tally _ _ _ _ _ _ _ _ _
    certain
    (ap (λ (t : Tally). t.all) counts)
    (c.end_if_none.ensures ∙ ap (λ n. if n == 0 then answer Min (lows (pairs_in column selection)) else None) certain)
    (c.end_if_none-2.ensures ∙ ap (λ n. if n == 0 then answer Max (highs (pairs_in column selection)) else None) certain)
    (ap (λ (t : Tally). t.least_certain_high) counts)
    (ap (λ (t : Tally). t.greatest_certain_low) counts)
    (low ∙ c.share.ensures.sum)
    (high ∙ c.share-2.ensures.sum))
