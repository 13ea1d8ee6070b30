use Rattle.std.proofs.Common.{◌≡◌, to_z, of_z, sym, ap, ◌∙◌, arith}
use Rattle.std.specs.Int.{w128}
use Rattle.std.proofs.lemmas.Int.{ints}
use Rattle.aggregates.specs.declared.tally.Tally.{Tally}
use Rattle.round_engine.proofs.SelectedBounds.{all_certain}
use Rattle.round_engine.proofs.selection.Selected.share.Goals as goal

pub returns-then-counts-clause-sum : goal.returns-then-counts-clause-sum
returns-then-counts-clause-sum c =
    let same : to_z w128 (of_z w128 c.args.certain) ≡ c.args.certain = omega (arith, ints, c.requires.small) in
    let certain = ap (λ (t : Tally). t.certain) c.requires.counts in
    let all = ap (λ (t : Tally). t.all) c.requires.counts in
    same ∙ c.requires.certain ∙ all_certain c.args.known.now c.args.self.now c.requires.selection c.args.end (sym certain ∙ c.if-counts.true ∙ all)
