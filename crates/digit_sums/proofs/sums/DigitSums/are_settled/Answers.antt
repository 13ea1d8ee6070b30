use Rattle.std.proofs.Common.{◌≡◌, slice_get, ap, sym, subst, ◌∙◌, arith}
use Rattle.digit_sums.specs.Digits.{AreOf, DigitTallies, IsKeptBy}
use Rattle.digit_sums.proofs.Kept.{settled}
use Rattle.digit_sums.proofs.sums.DigitSums.are_settled.Goals as goal

pub returns : goal.returns
returns c = λ t tallies are.
    let inside = c.self.inside in
    let view = c.self.view_is in
    subst (λ (s : DigitTallies). s.tallies ≡ tallies) view
    (settled inside.kind inside.ends inside.outer inside.cells inside.sums.items c.self.invariant.0
    (λ k old cell ends below at is. c.loop-cell.invariant k old cell ends (omega (arith, below, c.loop-cell-test.false)) (ap (λ (s : DigitTallies). slice_get s.kept k) (sym view) ∙ at) (subst (λ o. IsKeptBy o old cell) (ap (λ (s : DigitTallies). s.outer) view) is))
    tallies (subst (λ s. AreOf s tallies) (sym view) are))
