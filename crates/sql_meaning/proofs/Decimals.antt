-- Numbers in units of so many decimals, and the exact decimals that they are.
use Rattle.std.proofs.Common.{◌≡◌, ℕ, zero, suc, ◌+◌, ◌*◌, ◌^◌, ◌<◌, ℤ, pos, negsuc, ◌+ℤ◌, ◌-ℤ◌, ◌*ℤ◌, refl, sym, ap, ◌∙◌, arith}
use Rattle.std.proofs.Math.IntN.{*ℤ_comm, *ℤ-negsuc, *ℤ-zero, zero-*ℤ}
use Rattle.std.proofs.lemmas.Int.{ints}
use Rattle.std.proofs.lemmas.Nat.{pow-add}
use Rattle.std.specs.Cmp.{int_cmp_is}
use Rattle.std.specs.declared.cmp.Ordering.TheVariants.{Equal}
use Rattle.std.specs.Ordering.{int_cmp}
use Rattle.sql_meaning.specs.Values.{Decimal, compare_decimals}
use Rattle.sql_meaning.specs.Expressions.{minus, plus, times}
use Rattle.sql_meaning.proofs.Powers.{next, power_some, scaled, spread_left, twice}

-- ---- products

sum_times : (a b k : ℤ) → (a +ℤ b) *ℤ k ≡ (a *ℤ k) +ℤ (b *ℤ k)
sum_times a b (pos n) = spread_left a b n
sum_times a b (negsuc n) =
    let s = spread_left a b (suc n) in
    let e = *ℤ-negsuc (a +ℤ b) n in
    let f = *ℤ-negsuc a n in
    let g = *ℤ-negsuc b n in
    omega (arith, ints)

swapped : (x z : ℤ) (p : ℕ) → (x *ℤ pos p) *ℤ z ≡ (x *ℤ z) *ℤ pos p
swapped x z zero = ap (λ k. k *ℤ z) (*ℤ-zero x) ∙ zero-*ℤ z ∙ sym (*ℤ-zero (x *ℤ z))
swapped x z (suc p) = ap (λ k. k *ℤ z) (next x p) ∙ sum_times (x *ℤ pos p) x z ∙ ap (λ k. k +ℤ (x *ℤ z)) (swapped x z p) ∙ sym (next (x *ℤ z) p)

crossed : (x y : ℤ) (p q : ℕ) → (x *ℤ y) *ℤ pos (p * q) ≡ (y *ℤ pos q) *ℤ (x *ℤ pos p)
crossed x y p q =
    sym (twice (x *ℤ y) p q) ∙ ap (λ k. k *ℤ pos q) (sym (swapped x y p) ∙ *ℤ_comm (x *ℤ pos p) y) ∙ sym (swapped y (x *ℤ pos p) q)

spread_minus : (a b : ℤ) (n : ℕ) → (a -ℤ b) *ℤ pos n ≡ (a *ℤ pos n) -ℤ (b *ℤ pos n)
spread_minus a b zero = omega (arith, ints)
spread_minus a b (suc n) =
    let rest = spread_minus a b n in
    let e = next (a -ℤ b) n in
    let f = next a n in
    let g = next b n in
    omega (arith, ints)

turned : (a : ℤ) (m n : ℕ) → (a *ℤ pos m) *ℤ pos n ≡ (a *ℤ pos n) *ℤ pos m
turned a m n = let e : m * n ≡ n * m = omega arith in twice a m n ∙ ap (λ k. a *ℤ pos k) e ∙ sym (twice a n m)

-- ---- a number of so many decimals is the decimal

abbrev pub IsDecimal : ℕ → ℤ → Decimal → Type 0
IsDecimal s z d = z *ℤ pos (10 ^ d.behind) ≡ d.digits *ℤ pos (10 ^ s)

-- x in units of a is that much in units of both
over_both : (x a : ℤ) (p q s : ℕ) → x *ℤ pos p ≡ a *ℤ pos s → x *ℤ pos (p * q) ≡ (a *ℤ pos q) *ℤ pos s
over_both x a p q s h = sym (twice x p q) ∙ ap (λ k. k *ℤ pos q) h ∙ turned a s q

pub added : (s : ℕ) (x y : ℤ) (a b : Decimal) → IsDecimal s x a → IsDecimal s y b → IsDecimal s (x +ℤ y) (plus a b)
added s x y a b h k =
    let p = 10 ^ a.behind in
    let q = 10 ^ b.behind in
    let power : 10 ^ (a.behind + b.behind) ≡ p * q = pow-add 10 a.behind b.behind in
    let e : q * p ≡ p * q = omega arith in
    let left : x *ℤ pos (p * q) ≡ (a.digits *ℤ pos q) *ℤ pos (10 ^ s) = over_both x a.digits p q (10 ^ s) h in
    let right : y *ℤ pos (p * q) ≡ (b.digits *ℤ pos p) *ℤ pos (10 ^ s) = ap (λ n. y *ℤ pos n) (sym e) ∙ over_both y b.digits q p (10 ^ s) k in
    ap (λ n. (x +ℤ y) *ℤ pos n) power ∙ spread_left x y (p * q) ∙ ap (λ n. n +ℤ (y *ℤ pos (p * q))) left ∙ ap (λ n. ((a.digits *ℤ pos q) *ℤ pos (10 ^ s)) +ℤ n) right
    ∙ sym (spread_left (a.digits *ℤ pos q) (b.digits *ℤ pos p) (10 ^ s))

pub taken : (s : ℕ) (x y : ℤ) (a b : Decimal) → IsDecimal s x a → IsDecimal s y b → IsDecimal s (x -ℤ y) (minus a b)
taken s x y a b h k =
    let p = 10 ^ a.behind in
    let q = 10 ^ b.behind in
    let power : 10 ^ (a.behind + b.behind) ≡ p * q = pow-add 10 a.behind b.behind in
    let e : q * p ≡ p * q = omega arith in
    let left : x *ℤ pos (p * q) ≡ (a.digits *ℤ pos q) *ℤ pos (10 ^ s) = over_both x a.digits p q (10 ^ s) h in
    let right : y *ℤ pos (p * q) ≡ (b.digits *ℤ pos p) *ℤ pos (10 ^ s) = ap (λ n. y *ℤ pos n) (sym e) ∙ over_both y b.digits q p (10 ^ s) k in
    ap (λ n. (x -ℤ y) *ℤ pos n) power ∙ spread_minus x y (p * q) ∙ ap (λ n. n -ℤ (y *ℤ pos (p * q))) left ∙ ap (λ n. ((a.digits *ℤ pos q) *ℤ pos (10 ^ s)) -ℤ n) right
    ∙ sym (spread_minus (a.digits *ℤ pos q) (b.digits *ℤ pos p) (10 ^ s))

pub multiplied : (s t : ℕ) (x y : ℤ) (a b : Decimal) → IsDecimal s x a → IsDecimal t y b → IsDecimal (s + t) (x *ℤ y) (times a b)
multiplied s t x y a b h k =
    let power : 10 ^ (a.behind + b.behind) ≡ 10 ^ a.behind * 10 ^ b.behind = pow-add 10 a.behind b.behind in
    let scale : 10 ^ (s + t) ≡ 10 ^ s * 10 ^ t = pow-add 10 s t in
    ap (λ n. (x *ℤ y) *ℤ pos n) power ∙ crossed x y (10 ^ a.behind) (10 ^ b.behind) ∙ ap (λ n. n *ℤ (x *ℤ pos (10 ^ a.behind))) k ∙ ap (λ n. (b.digits *ℤ pos (10 ^ t)) *ℤ n) h
    ∙ sym (crossed a.digits b.digits (10 ^ s) (10 ^ t)) ∙ ap (λ n. (a.digits *ℤ b.digits) *ℤ pos n) (sym scale)

-- in units of more decimals
pub raised : (s d : ℕ) (z : ℤ) (a : Decimal) → IsDecimal s z a → IsDecimal (s + d) (z *ℤ pos (10 ^ d)) a
raised s d z a h =
    let scale : 10 ^ (s + d) ≡ 10 ^ s * 10 ^ d = pow-add 10 s d in
    turned z (10 ^ d) (10 ^ a.behind) ∙ ap (λ n. n *ℤ pos (10 ^ d)) h ∙ twice a.digits (10 ^ s) (10 ^ d) ∙ ap (λ n. a.digits *ℤ pos n) (sym scale)

pub itself : (s : ℕ) (z : ℤ) → IsDecimal s z (record { digits = z; behind = s })
itself s z = refl

-- ---- the order

pub ordered : (s : ℕ) (x y : ℤ) (a b : Decimal) → IsDecimal s x a → IsDecimal s y b → compare_decimals a b ≡ int_cmp x y
ordered s x y a b h k =
    let p = 10 ^ a.behind in
    let q = 10 ^ b.behind in
    let e : q * p ≡ p * q = omega arith in
    let left : x *ℤ pos (p * q) ≡ (a.digits *ℤ pos q) *ℤ pos (10 ^ s) = over_both x a.digits p q (10 ^ s) h in
    let right : y *ℤ pos (p * q) ≡ (b.digits *ℤ pos p) *ℤ pos (10 ^ s) = ap (λ n. y *ℤ pos n) (sym e) ∙ over_both y b.digits q p (10 ^ s) k in
    let some : 0 < p * q = both_some p q (power_some a.behind) (power_some b.behind) in
    sym (scaled (a.digits *ℤ pos q) (b.digits *ℤ pos p) (10 ^ s) (power_some s)) ∙ ap (λ n. int_cmp n ((b.digits *ℤ pos p) *ℤ pos (10 ^ s))) (sym left)
    ∙ ap (λ n. int_cmp (x *ℤ pos (p * q)) n) (sym right) ∙ scaled x y (p * q) some
  where
    both_some : (p q : ℕ) → 0 < p → 0 < q → 0 < p * q
    both_some zero q h k = absurd (omega (arith, h))
    both_some (suc p) zero h k = absurd (omega (arith, k))
    both_some (suc p) (suc q) h k = omega arith

pub is_decimal : (s : ℕ) (z : ℤ) (d : Decimal) → IsDecimal s z d → compare_decimals (record { digits = z; behind = s }) d ≡ Equal
is_decimal s z d h = sym (int_cmp_is (z *ℤ pos (10 ^ d.behind)) (d.digits *ℤ pos (10 ^ s)) Equal h)
