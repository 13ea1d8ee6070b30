use Rattle.std.proofs.Common.{◌≡◌, pos, to_z, of_z, refl, ap, ◌∙◌, arith}
use Rattle.std.specs.Int.{w128}
use Rattle.std.proofs.lemmas.Int.{ints}
use Rattle.query_model.specs.declared.query.ItemKind.TheVariants.{Count}
use Rattle.round_engine.specs.Selected.{pairs_in}
use Rattle.round_engine.proofs.Masked.{count_bound}
use Rattle.round_engine.proofs.SelectedBounds.{all_is, certain_is}
use Rattle.round_engine.proofs.selection.Selected.count.Goals as goal

pub returns : goal.returns
returns c = λ column is.
    let selection = c.args.self.now in
    let low : to_z w128 (of_z w128 c.from.result) ≡ c.from.result = omega (arith, ints) in
    let high : to_z w128 (of_z w128 c.from-2.result) ≡ c.from-2.result = omega (arith, ints) in
    count_bound Count (pairs_in column selection) _ _ refl (low ∙ c.from.ensures ∙ ap pos (c.counts-counts.ensures.fewest ∙ certain_is column selection is)) (high ∙ c.from-2.ensures ∙ ap pos (c.counts-counts.ensures.most ∙ all_is column selection is))
