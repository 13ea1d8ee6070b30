-- Digits, the numbers that they write, and where they end.
use Rattle.std.proofs.Common.{◌≡◌, ℕ, zero, suc, ◌+◌, ◌-◌, ◌*◌, ◌^◌, ◌<◌, ◌==◌, false, List, [], ◌∷◌, ◌++◌, length, replicate, decimal, refl, ap, subst, ◌∙◌, arith}
use Rattle.std.proofs.Math.Nat.{add-mul, mul_assoc, pow-succ'}
use Rattle.std.proofs.lemmas.Bool.Decides.{nat_tests}
use Rattle.std.proofs.lemmas.Fmt.{decimal_is_IsNumeral_wide, length-decimal-le_wide}
use Rattle.std.proofs.lemmas.List.{length-append, length-replicate}
use Rattle.std.proofs.lemmas.Str.{digit_value_digit}
use Rattle.std.proofs.lemmas.Str.Parse.{digit_from_value}
use Rattle.std.specs.Char.{digit_value}
use Rattle.std.specs.Int.{IsInRange}
use Rattle.std.specs.List.{position_or_len}
use Rattle.std.specs.Str.Parse.{AllDigits, digits_value, digits_value_after, starts_with_minus}
use Rattle.daq_table.proofs.CellDigits.{digits-append, digits-replicate, digits_after-ge}
use Rattle.daq_table.specs.Numbers.{digits_text}

-- where one digit more makes 128 bits too few, the whole number has more
pub too_long : (n c : ℕ) (cs : List ℕ) → IsInRange 48 57 c → ¬ (n * 10 + (c - 48) < 2 ^ 128) → ¬ (digits_value_after 10 n (c ∷ cs) < 2 ^ 128)
too_long n c cs range h = λ few. h (omega (arith, few, digits_after-ge (n * 10 + digit_value c) cs, digit_value_digit c range))

distributed : (n d p q : ℕ) → q ≡ 10 * p → (n * 10 + d) * p ≡ n * q + d * p
distributed n d p q e = rw (e, add-mul (n * 10) d p, mul_assoc n 10 p)

-- digits behind a number make room for themselves
pub digits_after-split : (n : ℕ) (ds : List ℕ) → digits_value_after 10 n ds ≡ n * 10 ^ length ds + digits_value 10 ds
digits_after-split n [] = omega arith
digits_after-split n (c ∷ cs) =
    let d = digit_value c in
    let front : 0 * 10 + d ≡ d = omega arith in
    let alone : digits_value 10 (c ∷ cs) ≡ digits_value_after 10 d cs = ap (λ (k : ℕ). digits_value_after 10 k cs) front in
    omega (arith, alone, digits_after-split (n * 10 + d) cs, digits_after-split d cs, distributed n d (10 ^ length cs) (10 ^ suc (length cs)) (pow-succ' 10 (length cs)))

-- zeros before digits change nothing
digits_value-zeros : (k : ℕ) (ds : List ℕ) → digits_value 10 (replicate k 48 ++ ds) ≡ digits_value 10 ds
digits_value-zeros zero ds = refl
digits_value-zeros (suc k) ds = digits_value-zeros k ds

pub padded_value : (scale n : ℕ) → n < 10 ^ 64 → digits_value 10 (digits_text scale n) ≡ n
padded_value scale n h = digits_value-zeros (scale - length (decimal n)) (decimal n) ∙ (decimal_is_IsNumeral_wide n h).1

pub padded_digits : (scale n : ℕ) → n < 10 ^ 64 → AllDigits 10 (digits_text scale n)
padded_digits scale n h =
    digits-append (replicate (scale - length (decimal n)) 48) (decimal n) (digits-replicate (scale - length (decimal n))) (decimal_is_IsNumeral_wide n h).0.1

pub padded_length : (scale n : ℕ) → 0 < scale → n < 10 ^ scale → n < 10 ^ 64 → length (digits_text scale n) ≡ scale
padded_length scale n some few h =
    simp (length-append, length-replicate) (omega (arith, length-decimal-le_wide scale n some few h))

-- a digit is no other byte
pub other_byte : (c d : ℕ) → digit_value c < 10 → d < 48 → (c == d) ≡ false
other_byte c d h low = let range = digit_from_value c h in grind (arith, nat_tests, range)

-- digits end at the first point
pub place_of_point : (ds rest : List ℕ) → AllDigits 10 ds → position_or_len (λ (c : ℕ). c == 46) (ds ++ 46 ∷ rest) ≡ length ds
place_of_point [] rest h = refl
place_of_point (c ∷ cs) rest h = rw (other_byte c 46 h.0 (omega arith)) (omega (arith, place_of_point cs rest h.1))

pub no_point : (ds : List ℕ) → AllDigits 10 ds → position_or_len (λ (c : ℕ). c == 46) ds ≡ length ds
no_point [] h = refl
no_point (c ∷ cs) h = rw (other_byte c 46 h.0 (omega arith)) (omega (arith, no_point cs h.1))

-- what begins with a digit begins with no minus
pub no_minus : (ds rest : List ℕ) → AllDigits 10 ds → 0 < length ds → starts_with_minus (ds ++ rest) ≡ false
no_minus [] rest h some = absurd (omega arith)
no_minus (c ∷ cs) rest h some = other_byte c 45 h.0 (omega arith)

-- the text of a count is read back as that count
pub record ReadsCount (text : List ℕ) (count : ℕ) : Type 0 where
  pub digits : AllDigits 10 text
  pub value : digits_value 10 text ≡ count

pub count_reads : (text : List ℕ) (count : ℕ) → count < 2 ^ 64 → decimal count ≡ text → ReadsCount text count
count_reads text count h e =
    let numeral = decimal_is_IsNumeral_wide count (omega arith) in
    subst (λ (t : List ℕ). ReadsCount t count) e (record { digits = numeral.0.1; value = numeral.1 })
