-- An item whose cells are copied from those that digits told, beside the others.
use Rattle.std.proofs.Common.{◌≡◌, ℕ, Bool, false, List, length-set, set, slice_get, Some, inl, inr, sym, subst, ◌∙◌, arith}
use Rattle.std.proofs.lemmas.Bool.{cases_eq}
use Rattle.std.proofs.lemmas.List.{get_or-set_other}
use Rattle.std.proofs.lemmas.Option.{same_Some, slice_get_within}
use Rattle.aggregates.specs.Runnings.{Tallies}
use Rattle.aggregates.proofs.Adding.{set_at, set_elsewhere}
use Rattle.query_model.specs.Queries.{Aggregate}
use Rattle.round_engine.specs.CellAnswers.{StandBeside, StandForCells, StandForOthers}
use Rattle.round_engine.specs.Stages.{Stage}

module _ (stage : Stage) (marks : List Bool) (runnings : List Tallies) (i : ℕ) (item : Aggregate) (told : Tallies) where
  pub others_told : slice_get stage.query.items i ≡ Some item → StandForCells stage item told → StandForOthers stage marks runnings → StandForOthers stage (set marks i false) (set runnings i told)
  others_told at stand others = record {
    count = length-set runnings i told ∙ others.count;
    each = λ j a x at_a at_x. elim (cases_eq j i) [
      | inl here ↦
          (let at_item : slice_get stage.query.items i ≡ Some a = subst (λ k. slice_get stage.query.items k ≡ Some a) here at_a in
          let at_told : slice_get (set runnings i told) i ≡ Some x = subst (λ k. slice_get (set runnings i told) k ≡ Some x) here at_x in
          let within = slice_get_within stage.query.items i item at in
          let count = others.count in
          let same_item : item ≡ a = same_Some item a (sym at ∙ at_item) in
          let same : told ≡ x = same_Some told x (sym (set_at runnings i told (omega (arith, within, count))) ∙ at_told) in
          let there : StandForCells stage a x = subst (StandForCells stage a) same (subst (λ b. StandForCells stage b told) same_item stand) in
          record { has_room = there.has_room; stands = λ unmarked. there })
      | inr other ↦
          subst (λ mark. StandBeside mark stage a x) (sym (get_or-set_other marks i j false false other)) (others.each j a x at_a (sym (set_elsewhere runnings i j told other) ∙ at_x))
    ];
  }
