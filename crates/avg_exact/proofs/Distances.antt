-- How far from base the rows lie that an end has above a fraction.
use Rattle.std.proofs.Common.{◌≡◌, ℕ, ◌<◌, ◌≤◌, nat_le, ℤ, pos, nat_abs, ◌+ℤ◌, ◌-ℤ◌, ◌≤ℤ◌, ◌<ℤ◌, int_lt, true, false, Some, None, arith, sym, ◌∙◌, inl, inr}
use Rattle.std.proofs.lemmas.Bool.{cases_lt}
use Rattle.std.proofs.lemmas.Bool.Decides.{nat_tests}
use Rattle.std.proofs.lemmas.Int.{ints}
use Rattle.avg_exact.specs.declared.passes.End.TheVariants.{Low, High}
use Rattle.avg_exact.specs.ExactAverages.{negative}
use Rattle.avg_exact.specs.Blocks.{IsDistance}
use Rattle.avg_exact.proofs.Cuts.{lt_is, not_lt}

test_is : (z w : ℕ) → z ≤ w → nat_le z w ≡ true
test_is z w h = grind (arith, nat_tests)

test_not : (z w : ℕ) → w < z → nat_le z w ≡ false
test_not z w h = grind (arith, nat_tests)

-- a number lies below another where a number is at most another
same_tests : (a b : ℤ) (z w : ℕ) → (z ≤ w → a <ℤ b) → (w < z → b ≤ℤ a) → int_lt a b ≡ nat_le z w
same_tests a b z w more less = elim (cases_lt w z) [
  | inl under ↦ not_lt a b (less under) ∙ sym (test_not z w under)
  | inr over ↦ lt_is a b (more over) ∙ sym (test_is z w over)
]

pub high_some : (base top floor : ℤ) (z : ℕ) → base ≤ℤ floor → floor <ℤ top → pos z ≡ floor -ℤ (base -ℤ pos 1) → IsDistance High base top floor (Some z)
high_some base top floor z above below is = (omega (arith, ints), λ w few. same_tests floor (base +ℤ pos w) z w (λ h. omega (arith, ints)) (λ h. omega (arith, ints)))

-- the low end
pub low_none : (base top floor : ℤ) → (pos 0 -ℤ base) ≤ℤ floor → IsDistance Low base top floor None
low_none base top floor above w few = not_lt floor (negative (base +ℤ pos w)) (omega (arith, ints))

pub low_all : (base top floor : ℤ) → base ≤ℤ top → floor <ℤ (pos 0 -ℤ top) → IsDistance Low base top floor (Some (nat_abs (top -ℤ base)))
low_all base top floor ordered below =
    (omega arith, λ w few. same_tests floor (negative (base +ℤ pos w)) w (nat_abs (top -ℤ base)) (λ h. omega (arith, ints)) (λ h. absurd (omega (arith, few, h))))

pub low_some : (base top floor : ℤ) (z : ℕ) → base ≤ℤ top → floor <ℤ (pos 0 -ℤ base) → (pos 0 -ℤ top) ≤ℤ floor → pos z ≡ (pos 0 -ℤ base) -ℤ (floor +ℤ pos 1) → IsDistance Low base top floor (Some z)
low_some base top floor z ordered below above is = (omega (arith, ints), λ w few. same_tests floor (negative (base +ℤ pos w)) w z (λ h. omega (arith, ints)) (λ h. omega (arith, ints)))
