-- Whole numbers times powers of ten keep their order.
use Rattle.std.proofs.Common.{◌≡◌, ℕ, zero, suc, ◌+◌, ◌-◌, ◌*◌, ◌^◌, ◌<◌, ◌≤◌, ℤ, pos, ◌+ℤ◌, ◌*ℤ◌, ◌≤ℤ◌, ◌<ℤ◌, sym, ap, ◌∙◌, arith, lit<}
use Rattle.std.proofs.lemmas.Int.{ints}
use Rattle.std.proofs.lemmas.Nat.{pow-add}
use Rattle.std.proofs.Math.Nat.{one-le-pow}
use Rattle.std.specs.Cmp.{int_cmp_is, int_ranks}
use Rattle.std.specs.declared.cmp.Ordering.{Ordering}
use Rattle.std.specs.declared.cmp.Ordering.TheVariants.{Less, Equal, Greater}
use Rattle.std.specs.Ordering.{MatchOrdering, int_cmp}
use Rattle.query_model.proofs.Integers.{times_pos}

spread : (a : ℤ) (x y : ℕ) → a *ℤ pos (x + y) ≡ (a *ℤ pos x) +ℤ (a *ℤ pos y)
spread a x y = omega (arith, ints)

pub next : (a : ℤ) (n : ℕ) → a *ℤ pos (suc n) ≡ (a *ℤ pos n) +ℤ a
next a n =
    let e : pos (suc n) ≡ pos (n + 1) = omega (arith, ints) in
    let one : a *ℤ pos 1 ≡ a = omega (arith, ints) in
    ap (λ m. a *ℤ m) e ∙ spread a n 1 ∙ ap (λ m. (a *ℤ pos n) +ℤ m) one

pub spread_left : (a b : ℤ) (n : ℕ) → (a +ℤ b) *ℤ pos n ≡ (a *ℤ pos n) +ℤ (b *ℤ pos n)
spread_left a b zero = omega (arith, ints)
spread_left a b (suc n) =
    let rest = spread_left a b n in
    let e = next (a +ℤ b) n in
    let f = next a n in
    let g = next b n in
    omega (arith, ints)

pub twice : (a : ℤ) (m n : ℕ) → (a *ℤ pos m) *ℤ pos n ≡ a *ℤ pos (m * n)
twice a m zero = omega (arith, ints)
twice a m (suc n) =
    let rest = twice a m n in
    let e : pos (m * suc n) ≡ pos (m * n + m) = omega (arith, ints) in
    let s = spread a (m * n) m in
    let t = spread (a *ℤ pos m) n 1 in
    omega (arith, ints)

times_some : (a b : ℤ) (n : ℕ) → 0 < n → a <ℤ b → (a *ℤ pos n) <ℤ (b *ℤ pos n)
times_some a b n some lt =
    let up : (a +ℤ pos 1) ≤ℤ b = omega (arith, ints) in
    let m = times_pos (a +ℤ pos 1) b n up in
    let s = spread_left a (pos 1) n in
    let c : pos 1 *ℤ pos n ≡ pos n = omega (arith, ints) in
    omega (arith, ints)

pub carried : (o : Ordering) (P Q R S T U : Type 0) → (P → S) → (Q → T) → (R → U) → MatchOrdering o P Q R → MatchOrdering o S T U
carried Less P Q R S T U f g h m = f m
carried Equal P Q R S T U f g h m = g m
carried Greater P Q R S T U f g h m = h m

-- both sides times a number keep their order
pub scaled : (x y : ℤ) (n : ℕ) → 0 < n → int_cmp (x *ℤ pos n) (y *ℤ pos n) ≡ int_cmp x y
scaled x y n some = sym (int_cmp_is (x *ℤ pos n) (y *ℤ pos n) (int_cmp x y)
    (carried (int_cmp x y) (x <ℤ y) (x ≡ y) (y <ℤ x) ((x *ℤ pos n) <ℤ (y *ℤ pos n)) ((x *ℤ pos n) ≡ (y *ℤ pos n)) ((y *ℤ pos n) <ℤ (x *ℤ pos n))
    (λ h. times_some x y n some h) (λ e. ap (λ z. z *ℤ pos n) e) (λ h. times_some y x n some h) (int_ranks x y)))

pub power_some : (n : ℕ) → 0 < 10 ^ n
power_some n = let one = one-le-pow n 10 (lit< tt) in omega (arith, one)

-- a number of fewer decimals raised to more of them
pub raised_power : (s t : ℕ) → t ≤ s → 10 ^ (s - t) * 10 ^ t ≡ 10 ^ s
raised_power s t h = let e : (s - t) + t ≡ s = omega arith in sym (pow-add 10 (s - t) t) ∙ ap (λ n. 10 ^ n) e

pub at_scale : (z u : ℤ) (s t : ℕ) → t ≤ s → int_cmp z (u *ℤ pos (10 ^ (s - t))) ≡ int_cmp (z *ℤ pos (10 ^ t)) (u *ℤ pos (10 ^ s))
at_scale z u s t h =
    let e : (u *ℤ pos (10 ^ (s - t))) *ℤ pos (10 ^ t) ≡ u *ℤ pos (10 ^ s) = twice u (10 ^ (s - t)) (10 ^ t) ∙ ap (λ n. u *ℤ pos n) (raised_power s t h) in
    sym (scaled z (u *ℤ pos (10 ^ (s - t))) (10 ^ t) (power_some t)) ∙ ap (λ w. int_cmp (z *ℤ pos (10 ^ t)) w) e
