use Rattle.std.proofs.Common.{◌≡◌, None, Some, to_z, of_z, refl, sym, ap, ◌∙◌, arith}
use Rattle.std.specs.Int.{w128}
use Rattle.std.proofs.lemmas.Int.{ints}
use Rattle.aggregates.specs.Selections.{ends_in}
use Rattle.round_engine.specs.SumEnds.{outermost}
use Rattle.round_engine.proofs.SelectedBounds.{inner_end_told}
use Rattle.round_engine.proofs.selection.Selected.inner_end.Goals as goal

pub returns-in-Some : goal.returns-in-Some
returns-in-Some c =
    let number = c.in-Some.number in
    let same : to_z w128 (of_z w128 number) ≡ number = omega (arith, ints) in
    same ∙ inner_end_told c.args.known.now c.args.self.now c.requires.selection c.args.end (Some number) _ (sym c.in-Some.is ∙ c.requires.certain) refl

pub returns-in-None : goal.returns-in-None
returns-in-None c =
    let same : to_z w128 (of_z w128 c.unwrap_or.result) ≡ c.unwrap_or.result = omega (arith, ints) in
    same ∙ c.unwrap_or.ensures ∙ inner_end_told c.args.known.now c.args.self.now c.requires.selection c.args.end None c.outermost.result (sym c.in-None.is ∙ c.requires.certain)
    (c.outermost.ensures ∙ ap (λ s. outermost c.args.end (ends_in c.args.end c.args.known.now s.may)) c.self.view_is)
