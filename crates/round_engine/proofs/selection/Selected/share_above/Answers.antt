use Rattle.std.proofs.Common.{◌≡◌, map, to_z, of_z, sym, ap, subst, ◌∙◌, arith}
use Rattle.std.specs.Int.{w128}
use Rattle.std.proofs.lemmas.Int.{ints}
use Rattle.aggregates.specs.Selections.{ends_in, highs_in}
use Rattle.query_model.specs.Answers.{total}
use Rattle.round_engine.specs.Selected.{pairs_in}
use Rattle.round_engine.specs.SumEnds.{share_at}
use Rattle.round_engine.proofs.SelectedBounds.{highs_share, lows_share}
use Rattle.round_engine.proofs.selection.Selected.share_above.Goals as goal

pub returns-in-Low : goal.returns-in-Low
returns-in-Low c =
    let column = c.args.known.now in
    let selection = c.args.self.now in
    let same : to_z w128 (of_z w128 c.args.certain) ≡ c.args.certain = omega (arith, ints, c.requires.small) in
    same ∙ c.requires.certain
    ∙ subst (λ e. total (ends_in e column selection.must) ≡ total (map (share_at e) (pairs_in column selection))) (sym c.in-Low.is) (lows_share column selection c.requires.selection c.requires.above)

pub returns-in-High : goal.returns-in-High
returns-in-High c =
    let column = c.args.known.now in
    let selection = c.args.self.now in
    let same : to_z w128 (of_z w128 c.sum_highs.result) ≡ c.sum_highs.result = omega (arith, ints, c.sum_highs.ensures.few) in
    same ∙ c.sum_highs.ensures.sum ∙ ap (λ s. total (highs_in column s.may)) c.self.view_is ∙ highs_share column selection c.requires.selection c.requires.above
    ∙ ap (λ e. total (map (share_at e) (pairs_in column selection))) (sym c.in-High.is)
