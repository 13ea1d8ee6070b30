-- Binary digits by halving, and texts of digits.
use Rattle.std.proofs.Common.{◌≡◌, ℕ, zero, suc, ◌+◌, ◌*◌, ◌/◌, ◌^◌, ◌<◌, ◌≤◌, Bool, true, false, cond, nat_eq, List, [], ◌∷◌, drop, refl, ap, arith}
use Rattle.std.proofs.Math.Nat.{pow-succ'}
use Rattle.std.proofs.lemmas.Bool.Decides.{nat_tests}
use Rattle.std.proofs.lemmas.Fmt.{IsAscii-from_digits}
use Rattle.std.proofs.lemmas.Str.Ascii.{IsAscii-nil, IsAscii-cons}
use Rattle.std.specs.Str.{IsAscii}
use Rattle.std.specs.Str.Parse.{AllDigits, without_leading_sign}
use Rattle.daq_table.specs.Tables.{binary_digits, halvings}

-- the limit makes no difference where it is not below the number
halvings_same : (limit other n : ℕ) → n ≤ limit → n ≤ other → halvings limit n ≡ halvings other n
halvings_same zero zero n h k = refl
halvings_same zero (suc other) zero h k = refl
halvings_same zero (suc other) (suc n) h k = absurd (omega arith)
halvings_same (suc limit) zero zero h k = refl
halvings_same (suc limit) zero (suc n) h k = absurd (omega arith)
halvings_same (suc limit) (suc other) zero h k = refl
halvings_same (suc limit) (suc other) (suc n) h k = ap suc (halvings_same limit other (suc n / 2) (omega arith) (omega arith))

-- a number above 0 has one digit more than its half
halved : (n : ℕ) → binary_digits (suc n) ≡ suc (binary_digits (suc n / 2))
unfolding binary_digits
halved n = ap suc (halvings_same n (suc n / 2) (suc n / 2) (omega arith) (omega arith))

pub digits_of_half : (n : ℕ) → 0 < n → binary_digits n ≡ binary_digits (n / 2) + 1
digits_of_half zero h = absurd (omega arith)
digits_of_half (suc n) h = omega (arith, halved n)

few_halvings : (limit k n : ℕ) → n < 2 ^ k → halvings limit n ≤ k
few_halvings zero k n h = omega arith
few_halvings (suc limit) k zero h = omega arith
few_halvings (suc limit) zero (suc n) h = absurd (omega arith)
few_halvings (suc limit) (suc k) (suc n) h =
    let twice : 2 ^ suc k ≡ 2 * 2 ^ k = pow-succ' 2 k in
    let half : suc n / 2 < 2 ^ k = omega arith in
    omega (arith, few_halvings limit k (suc n / 2) half)

-- a number below 2 to the power of k has at most k digits
pub few_digits : (k n : ℕ) → n < 2 ^ k → binary_digits n ≤ k
unfolding binary_digits
few_digits k n h = few_halvings n k n h

pub no_digits : binary_digits 0 ≡ 0
unfolding binary_digits
no_digits = refl

-- digits after at most one sign are bytes below 128
signed : (c : ℕ) (cs : List ℕ) (minus plus : Bool) → nat_eq c 45 ≡ minus → nat_eq c 43 ≡ plus →
    AllDigits 10 (cond minus cs (drop (cond plus 1 0) (c ∷ cs))) → IsAscii (c ∷ cs)
signed c cs true plus e f h = IsAscii-cons c cs (grind (arith, nat_tests)) (IsAscii-from_digits cs h)
signed c cs false true e f h = IsAscii-cons c cs (grind (arith, nat_tests)) (IsAscii-from_digits cs h)
signed c cs false false e f h = IsAscii-from_digits (c ∷ cs) h

pub signed_ascii : (bytes : List ℕ) → AllDigits 10 (without_leading_sign bytes) → IsAscii bytes
signed_ascii [] h = IsAscii-nil
signed_ascii (c ∷ cs) h = signed c cs (nat_eq c 45) (nat_eq c 43) refl refl h
