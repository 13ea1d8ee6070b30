use Rattle.std.proofs.Common.{◌≡◌, ◌<◌, length, length-set, set, slice_get, Some, inl, inr, ap, sym, subst, ◌∙◌, arith}
use Rattle.std.proofs.lemmas.Bool.{cases_eq}
use Rattle.aggregates.proofs.Adding.{set_at, set_elsewhere}
use Rattle.digit_sums.specs.Ones.{CountedBits}
use Rattle.digit_sums.proofs.ones.CellOnes.begin.Goals as goal

pub loop-cell-preserved : goal.loop-cell-preserved
loop-cell-preserved c =
    let before = c.loop-cell.invariant in
    let items = c.loop-cell.self-inside.bits.items in
    let highs = c.loop-cell.self-inside.highs.items in
    let n = c.loop-cell.cell in
    let bits = c.none.result in
    let room = ap (λ (d : CountedBits). d.room) c.self.view_is in
    let within : n < length items = omega (arith, before.count, room, c.requires, c.loop-cell-test.true) in
    let both = c.self.invariant.1 in
    let within_highs : n < length highs = omega (arith, before.count_highs, both, room, c.requires, c.loop-cell-test.true) in
    record {
      count = length-set items n bits ∙ before.count;
      count_highs = length-set highs n 0 ∙ before.count_highs;
      done = λ k below. elim (cases_eq k n) [
        | inl here ↦ subst (λ j. slice_get (set items n bits) j ≡ Some (record { ones = 0; at_top = 0 })) (sym here) (set_at items n bits within ∙ ap Some c.none.ensures)
        | inr away ↦ set_elsewhere items n k bits away ∙ before.done k (omega (arith, below, away))
      ];
      done_highs = λ k below. elim (cases_eq k n) [
        | inl here ↦ subst (λ j. slice_get (set highs n 0) j ≡ Some 0) (sym here) (set_at highs n 0 within_highs)
        | inr away ↦ set_elsewhere highs n k 0 away ∙ before.done_highs k (omega (arith, below, away))
      ];
    }
