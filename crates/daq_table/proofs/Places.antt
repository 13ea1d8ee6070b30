-- The first place of a byte.
use Rattle.std.proofs.Common.{◌≡◌, ℕ, ◌≤◌, Bool, true, false, List, length, Some, None, cond, nat_lt, position, refl, arith}
use Rattle.std.proofs.lemmas.Bool.Decides.{nat_tests}
use Rattle.std.proofs.lemmas.List.Sums.{prefix_len-le-length}
use Rattle.std.specs.List.{position_or_len}

by_test : (n m : ℕ) (b : Bool) → nat_lt n m ≡ b → cond b (Some n) None ≡ None → n ≤ m → m ≡ n
by_test n m true e h le = absurd (cc)
by_test n m false e h le = grind (arith, nat_tests)

-- where no byte passes, the first place is the end
pub no_place : {X : Type 0} (p : X → Bool) (xs : List X) → position p xs ≡ None → length xs ≡ position_or_len p xs
no_place p xs h =
    by_test (position_or_len p xs) (length xs) (nat_lt (position_or_len p xs) (length xs)) refl h (prefix_len-le-length _ xs)
