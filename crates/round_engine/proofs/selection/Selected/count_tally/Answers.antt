use Rattle.std.proofs.Common.{count_by, ap, sym, ◌∙◌, arith}
use Rattle.std.proofs.lemmas.Int.{ints}
use Rattle.query_model.specs.declared.query.ItemKind.TheVariants.{Count}
use Rattle.aggregates.specs.declared.tally.Tally.{Tally}
use Rattle.aggregates.proofs.Appending.{same_tally}
use Rattle.round_engine.proofs.SelectedBounds.{all_is, certain_is}
use Rattle.round_engine.proofs.selection.Selected.count_tally.Goals as goal

pub returns : goal.returns
returns c = λ column is.
    let selection = c.args.self.now in
    let none = c.none.ensures Count in
    sym (same_tally _ _ _ _ _ _ _ _ _
    (c.count.ensures ∙ ap (λ s. count_by (λ b. b) s.must) c.self.view_is ∙ certain_is column selection is)
    (c.count-2.ensures ∙ ap (λ s. count_by (λ b. b) s.may) c.self.view_is ∙ all_is column selection is)
    (ap (λ (t : Tally). t.least_low) none)
    (ap (λ (t : Tally). t.greatest_high) none)
    (ap (λ (t : Tally). t.least_certain_high) none)
    (ap (λ (t : Tally). t.greatest_certain_low) none)
    (omega (arith, ints) ∙ ap (λ (t : Tally). t.low_sum) none)
    (omega (arith, ints) ∙ ap (λ (t : Tally). t.high_sum) none))
