-- Fractions, compared by cross products.
use Rattle.std.proofs.Common.{◌≡◌, ℕ, suc, ◌+◌, ◌*◌, ◌≤◌, ℤ, pos, ◌*ℤ◌, ◌+ℤ◌, ◌-ℤ◌, ◌≤ℤ◌, ◌<ℤ◌, int_le, inl, inr, arith, ap}
use Rattle.std.proofs.Math.Nat.{mul-le-mul_left}
use Rattle.std.proofs.lemmas.Bool.{cases_Bool}
use Rattle.std.proofs.lemmas.Int.{ints}
use Rattle.query_model.proofs.Integers.{times_pos}
use borrow.Author.Differences.{up, down}

pub plus_times : (a b : ℤ) (n : ℕ) → (a +ℤ b) *ℤ pos n ≡ (a *ℤ pos n) +ℤ (b *ℤ pos n)
plus_times a b n =
    let e : up (a +ℤ b) + down a + down b ≡ down (a +ℤ b) + up a + up b = omega (arith, ints) in
    omega (arith, ints, ap (λ x. x * n) e)

pub negative_times : (a : ℤ) (n : ℕ) → (pos 0 -ℤ a) *ℤ pos n ≡ pos 0 -ℤ (a *ℤ pos n)
negative_times a n =
    let e : up (pos 0 -ℤ a) + up a ≡ down (pos 0 -ℤ a) + down a = omega (arith, ints) in
    omega (arith, ints, ap (λ x. x * n) e)

pub times_suc : (a : ℤ) (n : ℕ) → a *ℤ pos (suc n) ≡ (a *ℤ pos n) +ℤ a
times_suc a n = omega (arith, ints)

pub times_twice : (a : ℤ) (m n : ℕ) → (a *ℤ pos m) *ℤ pos n ≡ a *ℤ pos (m * n)
times_twice a m n =
    let e : up (a *ℤ pos m) + down a * m ≡ down (a *ℤ pos m) + up a * m = omega (arith, ints) in
    omega (arith, ints, ap (λ x. x * n) e)

times_swapped : (a : ℤ) (m n : ℕ) → (a *ℤ pos m) *ℤ pos n ≡ (a *ℤ pos n) *ℤ pos m
times_swapped a m n =
    let one = times_twice a m n in
    let other = times_twice a n m in
    let same : a *ℤ pos (m * n) ≡ a *ℤ pos (n * m) = omega (arith, ints) in
    omega (arith, ints)

-- to multiply by a number above 0 keeps a strict order
pub times_some : (a b : ℤ) (n : ℕ) → a <ℤ b → 1 ≤ n → (a *ℤ pos n) <ℤ (b *ℤ pos n)
times_some a b n h some =
    let e : up a + down b + 1 ≤ up b + down a = omega (arith, ints) in
    omega (arith, ints, mul-le-mul_left n e)

-- a factor above 0 may be left out
pub cancel_some : (a b : ℤ) (n : ℕ) → 1 ≤ n → (a *ℤ pos n) ≤ℤ (b *ℤ pos n) → a ≤ℤ b
cancel_some a b n some h = elim (cases_Bool (int_le a b)) [
  | inl le ↦ omega (arith, ints)
  | inr gt ↦ (let above : b <ℤ a = omega (arith, ints) in let more = times_some b a n above some in absurd (omega (arith, ints)))
]

pub cancel_some_strictly : (a b : ℤ) (n : ℕ) → (a *ℤ pos n) <ℤ (b *ℤ pos n) → a <ℤ b
cancel_some_strictly a b n h = elim (cases_Bool (int_le b a)) [
  | inl le ↦ (let below : b ≤ℤ a = omega (arith, ints) in let more = times_pos b a n below in absurd (omega (arith, ints)))
  | inr gt ↦ omega (arith, ints)
]

-- where a / m is at most b / n, and that at most c / k, so is a / m at most c / k
pub at_most_trans : (a b c : ℤ) (m n k : ℕ) → 1 ≤ n → (a *ℤ pos n) ≤ℤ (b *ℤ pos m) → (b *ℤ pos k) ≤ℤ (c *ℤ pos n) → (a *ℤ pos k) ≤ℤ (c *ℤ pos m)
at_most_trans a b c m n k some h g =
    let first = times_pos (a *ℤ pos n) (b *ℤ pos m) k h in
    let second = times_pos (b *ℤ pos k) (c *ℤ pos n) m g in
    let left = times_swapped a n k in
    let middle = times_swapped b m k in
    let right = times_swapped c n m in
    cancel_some (a *ℤ pos k) (c *ℤ pos m) n some (omega (arith, ints))

-- and less where one of the two is less
pub less_at_most_trans : (a b c : ℤ) (m n k : ℕ) → 1 ≤ k → (a *ℤ pos n) <ℤ (b *ℤ pos m) → (b *ℤ pos k) ≤ℤ (c *ℤ pos n) → (a *ℤ pos k) <ℤ (c *ℤ pos m)
less_at_most_trans a b c m n k some h g =
    let first = times_some (a *ℤ pos n) (b *ℤ pos m) k h some in
    let second = times_pos (b *ℤ pos k) (c *ℤ pos n) m g in
    let left = times_swapped a n k in
    let middle = times_swapped b m k in
    let right = times_swapped c n m in
    cancel_some_strictly (a *ℤ pos k) (c *ℤ pos m) n (omega (arith, ints))

pub at_most_less_trans : (a b c : ℤ) (m n k : ℕ) → 1 ≤ m → (a *ℤ pos n) ≤ℤ (b *ℤ pos m) → (b *ℤ pos k) <ℤ (c *ℤ pos n) → (a *ℤ pos k) <ℤ (c *ℤ pos m)
at_most_less_trans a b c m n k some h g =
    let first = times_pos (a *ℤ pos n) (b *ℤ pos m) k h in
    let second = times_some (b *ℤ pos k) (c *ℤ pos n) m g some in
    let left = times_swapped a n k in
    let middle = times_swapped b m k in
    let right = times_swapped c n m in
    cancel_some_strictly (a *ℤ pos k) (c *ℤ pos m) n (omega (arith, ints))
