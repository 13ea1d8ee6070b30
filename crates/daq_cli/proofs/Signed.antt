-- Tests of signed numbers that hold.
use Rattle.std.proofs.Common.{◌≡◌, ℕ, ℤ, pos, ◌≤ℤ◌, int_le, int_lt, true, arith}
use Rattle.std.proofs.lemmas.Int.{ints}

pub le_holds : (a b : ℤ) → int_le a b ≡ true → a ≤ℤ b
le_holds a b e = grind (arith, ints)

pub lt_holds : (a : ℤ) (n : ℕ) → int_lt a (pos n) ≡ true → a ≤ℤ pos n
lt_holds a n e = grind (arith, ints)
