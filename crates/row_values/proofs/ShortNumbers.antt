-- Numbers of 64 bits, as they stand in the clauses of calls: converted to bits and back.
use Rattle.std.proofs.Common.{◌≡◌, ℕ, ◌≤◌, ℤ, pos, negsuc, ◌+ℤ◌, ◌-ℤ◌, ◌*ℤ◌, ◌≤ℤ◌, ap, ◌∙◌, arith, FitsSigned, to_z, of_z}
use Rattle.std.specs.Prelude.{nat_abs}
use Rattle.std.specs.Int.{w64, w128, int_min, int_max}
use Rattle.std.proofs.lemmas.Int.{to_z-of_z, ints, clamps}
use Rattle.interval_calc.specs.Intervals.{Interval, hull_of_four}
use Rattle.query_model.proofs.Spans.{IsSmaller}
use Rattle.row_values.specs.ShortSpans.{IsShort}

abbrev pub again : ℤ → ℤ
again z = to_z w64 (of_z w64 z)

fits_pos : (n m : ℕ) → n ≤ m → FitsSigned w64 (pos m) → FitsSigned w64 (pos n)
fits_pos n m h f = (let g = f.sfits in record { sfits = omega arith })

fits_neg : (n m : ℕ) → n ≤ m → FitsSigned w64 (negsuc m) → FitsSigned w64 (negsuc n)
fits_neg n m h f = (let g = f.sfits in record { sfits = omega arith })

pub between_fits : (a z b : ℤ) → a ≤ℤ z → z ≤ℤ b → FitsSigned w64 a → FitsSigned w64 b → FitsSigned w64 z
between_fits a (pos n) (pos m) low high f g = fits_pos n m (omega (arith, ints)) g
between_fits a (pos n) (negsuc m) low high f g = absurd (omega (arith, ints))
between_fits (pos m) (negsuc n) b low high f g = absurd (omega (arith, ints))
between_fits (negsuc m) (negsuc n) b low high f g = fits_neg n m (omega (arith, ints)) f

pub short_inside : (i j : Interval) → IsSmaller i j → IsShort j → IsShort i
short_inside i j s w =
    let o = s.ordered in
    let a = s.inside.low in
    let b = s.inside.high in
    (between_fits j.low i.low j.high (omega (arith, ints)) (omega (arith, ints)) w.0 w.1, between_fits j.low i.high j.high (omega (arith, ints)) (omega (arith, ints)) w.0 w.1)

-- four numbers between whose least and greatest all numbers have 64 bits
pub record FitFour (a b c d : ℤ) : Type 0 where
  pub first : FitsSigned w64 a
  pub second : FitsSigned w64 b
  pub third : FitsSigned w64 c
  pub fourth : FitsSigned w64 d

pub corners_fit : (a b c d : ℤ) → IsShort (hull_of_four a b c d) → FitFour a b c d
corners_fit a b c d h = record {
  first = between_fits _ a _ (omega (arith, ints, clamps)) (omega (arith, ints, clamps)) h.0 h.1;
  second = between_fits _ b _ (omega (arith, ints, clamps)) (omega (arith, ints, clamps)) h.0 h.1;
  third = between_fits _ c _ (omega (arith, ints, clamps)) (omega (arith, ints, clamps)) h.0 h.1;
  fourth = between_fits _ d _ (omega (arith, ints, clamps)) (omega (arith, ints, clamps)) h.0 h.1;
}

pub product_again : (a b : ℤ) → FitsSigned w64 a → FitsSigned w64 b → FitsSigned w64 (a *ℤ b) → again (again a *ℤ again b) ≡ a *ℤ b
product_again a b f g h = ap (λ z. again (z *ℤ again b)) (to_z-of_z w64 a f) ∙ ap (λ z. again (a *ℤ z)) (to_z-of_z w64 b g) ∙ to_z-of_z w64 (a *ℤ b) h

-- the least of four, by two calls on two and one on what they give
pub min_of_four : (m p q a b c d : ℤ) → FitsSigned w64 p → FitsSigned w64 q → FitsSigned w64 a → FitsSigned w64 b → FitsSigned w64 c → FitsSigned w64 d
    → m ≡ int_min (again p) (again q) → p ≡ int_min (again a) (again b) → q ≡ int_min (again c) (again d) → m ≡ int_min (int_min a b) (int_min c d)
min_of_four m p q a b c d fp fq fa fb fc fd e f g = e ∙ ap (λ z. int_min z (again q)) (to_z-of_z w64 p fp ∙ f ∙ ap (λ z. int_min z (again b)) (to_z-of_z w64 a fa) ∙ ap (int_min a) (to_z-of_z w64 b fb))
    ∙ ap (int_min (int_min a b)) (to_z-of_z w64 q fq ∙ g ∙ ap (λ z. int_min z (again d)) (to_z-of_z w64 c fc) ∙ ap (int_min c) (to_z-of_z w64 d fd))

pub max_of_four : (m p q a b c d : ℤ) → FitsSigned w64 p → FitsSigned w64 q → FitsSigned w64 a → FitsSigned w64 b → FitsSigned w64 c → FitsSigned w64 d
    → m ≡ int_max (again p) (again q) → p ≡ int_max (again a) (again b) → q ≡ int_max (again c) (again d) → m ≡ int_max (int_max a b) (int_max c d)
max_of_four m p q a b c d fp fq fa fb fc fd e f g = e ∙ ap (λ z. int_max z (again q)) (to_z-of_z w64 p fp ∙ f ∙ ap (λ z. int_max z (again b)) (to_z-of_z w64 a fa) ∙ ap (int_max a) (to_z-of_z w64 b fb))
    ∙ ap (int_max (int_max a b)) (to_z-of_z w64 q fq ∙ g ∙ ap (λ z. int_max z (again d)) (to_z-of_z w64 c fc) ∙ ap (int_max c) (to_z-of_z w64 d fd))

-- a number of 64 bits counted from another, where it does not pass a third
pub counted_from : (base top : ℤ) (n : ℕ) (x y : ℤ) → x ≡ base → y ≡ pos n → base ≤ℤ top → n ≤ nat_abs (top -ℤ base) → FitsSigned w64 base → FitsSigned w64 top →
    again (to_z w128 (of_z w128 (to_z w128 (of_z w128 x) +ℤ to_z w128 (of_z w128 y)))) ≡ base +ℤ pos n
counted_from base top n x y e f ordered most fb ft =
    let low = fb.sfits in
    let high = ft.sfits in
    let below : (base +ℤ pos n) ≤ℤ top = omega (arith, ints, ordered, most) in
    let above : base ≤ℤ (base +ℤ pos n) = omega (arith, ints) in
    let fits = between_fits base (base +ℤ pos n) top above below fb ft in
    let sum : to_z w128 (of_z w128 (to_z w128 (of_z w128 x) +ℤ to_z w128 (of_z w128 y))) ≡ base +ℤ pos n = omega (arith, ints, e, f, low, high, below, above, most) in
    ap again sum ∙ to_z-of_z w64 (base +ℤ pos n) fits
