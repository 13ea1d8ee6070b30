-- Fractions in order.
use Rattle.std.proofs.Common.{◌≡◌, ℕ, zero, suc, ◌+◌, ◌*◌, ◌<◌, ℤ, pos, ◌+ℤ◌, ◌*ℤ◌, ◌≤ℤ◌, ◌<ℤ◌, int_le, arith, sym, ap, ◌∙◌}
use Rattle.std.proofs.lemmas.Bool.{cond_both}
use Rattle.std.proofs.lemmas.Int.{ints, by_lt_z}
use Rattle.query_model.proofs.Integers.{times_pos}
use Rattle.interval_calc.specs.Intervals.{Fraction}
use Rattle.shard_bounds.specs.Averages.{lesser, greater}

pub spread : (a : ℤ) (x y : ℕ) → a *ℤ pos (x + y) ≡ (a *ℤ pos x) +ℤ (a *ℤ pos y)
spread a x y = omega (arith, ints)

next : (a : ℤ) (n : ℕ) → a *ℤ pos (suc n) ≡ (a *ℤ pos n) +ℤ a
next a n =
    let e : pos (suc n) ≡ pos (n + 1) = omega (arith, ints) in
    let one : a *ℤ pos 1 ≡ a = omega (arith, ints) in
    ap (λ m. a *ℤ m) e ∙ spread a n 1 ∙ ap (λ m. (a *ℤ pos n) +ℤ m) one

pub spread_left : (a b : ℤ) (n : ℕ) → (a +ℤ b) *ℤ pos n ≡ (a *ℤ pos n) +ℤ (b *ℤ pos n)
spread_left a b zero = omega (arith, ints)
spread_left a b (suc n) =
    let rest = spread_left a b n in
    let e = next (a +ℤ b) n in
    let f = next a n in
    let g = next b n in
    omega (arith, ints)

pub twice : (a : ℤ) (m n : ℕ) → (a *ℤ pos m) *ℤ pos n ≡ a *ℤ pos (m * n)
twice a m zero = omega (arith, ints)
twice a m (suc n) =
    let rest = twice a m n in
    let e : pos (m * suc n) ≡ pos (m * n + m) = omega (arith, ints) in
    let s = spread a (m * n) m in
    let t = spread (a *ℤ pos m) n 1 in
    omega (arith, ints)

swap : (a : ℤ) (m n : ℕ) → (a *ℤ pos m) *ℤ pos n ≡ (a *ℤ pos n) *ℤ pos m
swap a m n = (let e : m * n ≡ n * m = omega arith in twice a m n ∙ ap (λ k. a *ℤ pos k) e ∙ sym (twice a n m))

-- ---- the order

abbrev pub IsAtMost : Fraction → Fraction → Type 0
IsAtMost a b = (a.num *ℤ pos b.den) ≤ℤ (b.num *ℤ pos a.den)

-- to divide by a number above 0 keeps the order
cancel : (x y : ℤ) (d : ℕ) → 0 < d → (x *ℤ pos d) ≤ℤ (y *ℤ pos d) → x ≤ℤ y
cancel x y d h le = by_le_z x y (λ under. under) (λ over.
    let up : (y +ℤ pos 1) ≤ℤ x = omega (arith, ints) in
    let a = times_pos (y +ℤ pos 1) x d up in
    let b = spread_left y (pos 1) d in
    let c : pos 1 *ℤ pos d ≡ pos d = omega (arith, ints) in
    absurd (omega (arith, ints)))
  where
    by_le_z : {P : Type 0} (a b : ℤ) → (a ≤ℤ b → P) → (b <ℤ a → P) → P
    by_le_z a b f g = by_lt_z b a g f

pub at_most-trans : (a b c : Fraction) → 0 < b.den → IsAtMost a b → IsAtMost b c → IsAtMost a c
at_most-trans a b c h p q =
    let first = times_pos (a.num *ℤ pos b.den) (b.num *ℤ pos a.den) c.den p in
    let second = times_pos (b.num *ℤ pos c.den) (c.num *ℤ pos b.den) a.den q in
    let x = swap a.num b.den c.den in
    let y = swap b.num a.den c.den in
    let z = swap c.num b.den a.den in
    cancel (a.num *ℤ pos c.den) (c.num *ℤ pos a.den) b.den h (omega (arith, ints))

pub at_most-refl : (a : Fraction) → IsAtMost a a
at_most-refl a = omega (arith, ints)

-- ---- the sums of the numerators and of the denominators lie between

abbrev pub added : Fraction → Fraction → Fraction
added a b = record { num = a.num +ℤ b.num; den = a.den + b.den }

pub at_most-added : (low a b : Fraction) → IsAtMost low a → IsAtMost low b → IsAtMost low (added a b)
at_most-added low a b p q =
    let x = spread low.num a.den b.den in
    let y = spread_left a.num b.num low.den in
    omega (arith, ints)

pub added-at_most : (a b high : Fraction) → IsAtMost a high → IsAtMost b high → IsAtMost (added a b) high
added-at_most a b high p q =
    let x = spread high.num a.den b.den in
    let y = spread_left a.num b.num high.den in
    omega (arith, ints)

-- ---- the lesser and the greater of two

pub lesser-below : (a b : Fraction) → (IsAtMost (lesser a b) a × IsAtMost (lesser a b) b)
lesser-below a b = cond_both (int_le (a.num *ℤ pos b.den) (b.num *ℤ pos a.den)) a b (λ m. IsAtMost m a × IsAtMost m b)
    (λ t. (at_most-refl a, omega (arith, ints))) (λ f. (omega (arith, ints), at_most-refl b))

pub greater-above : (a b : Fraction) → (IsAtMost a (greater a b) × IsAtMost b (greater a b))
greater-above a b = cond_both (int_le (a.num *ℤ pos b.den) (b.num *ℤ pos a.den)) b a (λ m. IsAtMost a m × IsAtMost b m)
    (λ t. (omega (arith, ints), at_most-refl b)) (λ f. (at_most-refl a, omega (arith, ints)))
