-- That the text of a number is read back as that number.
use Rattle.std.proofs.Common.{Bool, lit<, ◌≡◌, ℕ, zero, suc, ◌+◌, ◌/◌, ◌%◌, ◌^◌, ◌<◌, ◌≤◌, ◌==◌, false, List, [], ◌∷◌, ◌++◌, length, codes, decimal, refl, ap, ◌∙◌, arith, ℤ, pos, negsuc, unsigned_abs, FitsSigned, append_assoc}
use Rattle.std.proofs.Math.Nat.{div-le_self, pow-le-pow_right}
use Rattle.std.proofs.lemmas.Bool.Decides.{nat_tests}
use Rattle.std.proofs.lemmas.Fmt.{decimal_is_IsNumeral_wide}
use Rattle.std.proofs.lemmas.Int.{ints}
use Rattle.std.proofs.lemmas.List.{append-nil, drop_all, drop_at, length-append, take_all, take_at}
use Rattle.std.proofs.lemmas.Nat.{div-add-mod', mod_below}
use Rattle.std.proofs.lemmas.Str.Parse.{digit_from_value}
use Rattle.std.specs.Char.{digit_value}
use Rattle.std.specs.Int.{w128}
use Rattle.std.specs.List.{after_first, before_first, position_or_len}
use Rattle.std.specs.Str.Parse.{AllDigits, digits_value, digits_value_after, starts_with_minus}
use Rattle.daq_table.specs.CellTexts.{with_sign}
use Rattle.daq_table.specs.Numbers.{digits_text, scaled_text, sign_text}
use Rattle.report_text.proofs.DigitTexts.{digits_after-split, no_minus, no_point, other_byte, padded_digits, padded_length, padded_value, place_of_point}
use Rattle.report_text.proofs.EndPlaces.{before_place, place_behind}
use Rattle.report_text.specs.Averages.{CanBeDivided, ratio_text}
use Rattle.report_text.specs.Layouts.{Fails, IsEnd, is_other}
use Rattle.report_text.specs.Numbers.{CanBeRead, is_negative, number_text, plain, unsigned_part}
use Rattle.report_text.specs.declared.averages.Ratio.{Ratio}
use Rattle.report_text.specs.declared.numbers.Number.{Number}

-- what stands before the point, and all where there is none
abbrev pub whole_digits : List ℕ → List ℕ
whole_digits text = before_first (λ c. c == 46) (unsigned_part text)

-- what stands behind the point, and nothing where there is none
abbrev fraction_digits : List ℕ → List ℕ
fraction_digits text = after_first (λ c. c == 46) (unsigned_part text)

-- how many units the digits write
abbrev magnitude : List ℕ → ℕ
magnitude text = digits_value_after 10 (digits_value 10 (whole_digits text)) (fraction_digits text)

-- the number that the text writes
abbrev units_of_text : List ℕ → ℤ
units_of_text text = with_sign (starts_with_minus text) (magnitude text)

abbrev pub number_of_text : List ℕ → Number
number_of_text text = record { decimals = length (fraction_digits text); units = units_of_text text }

-- the digits behind its point
abbrev pub places : ℕ → ℕ → List ℕ
places zero n = []
places (suc scale) n = digits_text (suc scale) (n % 10 ^ suc scale)

-- a number's text is its sign and that of its magnitude
pub scaled-plain : (scale : ℕ) (z : ℤ) → scaled_text scale z ≡ sign_text z ++ plain scale (unsigned_abs z)
scaled-plain zero (pos n) = refl
scaled-plain zero (negsuc n) = refl
scaled-plain (suc scale) z =
    let whole = decimal (unsigned_abs z / 10 ^ suc scale) in
    let fraction = digits_text (suc scale) (unsigned_abs z % 10 ^ suc scale) in
    append_assoc (sign_text z ++ whole) (codes ".") fraction ∙ append_assoc (sign_text z) whole (codes "." ++ fraction)

pub whole_of_plain : (scale n : ℕ) → n < 2 ^ 128 → before_first (λ (c : ℕ). c == 46) (plain scale n) ≡ decimal (n / 10 ^ scale)
whole_of_plain zero n h =
    let ds = decimal_is_IsNumeral_wide n (omega arith) in
    let place : position_or_len (λ (c : ℕ). c == 46) (decimal n) ≡ length (decimal n) = no_point (decimal n) ds.0.1 in
    let one : n / 10 ^ 0 ≡ n = omega arith in
    rw (place, one) (take_all (length (decimal n)) (decimal n) (omega arith))
whole_of_plain (suc scale) n h =
    let m = n / 10 ^ suc scale in
    let ds = decimal_is_IsNumeral_wide m (omega (arith, div-le_self n (10 ^ suc scale))) in
    let rest = digits_text (suc scale) (n % 10 ^ suc scale) in
    rw (place_of_point (decimal m) rest ds.0.1) (take_at (decimal m) (46 ∷ rest) (length (decimal m)) refl)

pub places_of_plain : (scale n : ℕ) → n < 2 ^ 128 → after_first (λ (c : ℕ). c == 46) (plain scale n) ≡ places scale n
places_of_plain zero n h =
    let ds = decimal_is_IsNumeral_wide n (omega arith) in
    rw (no_point (decimal n) ds.0.1) (drop_all (length (decimal n) + 1) (decimal n) (omega arith))
places_of_plain (suc scale) n h =
    let m = n / 10 ^ suc scale in
    let ds = decimal_is_IsNumeral_wide m (omega (arith, div-le_self n (10 ^ suc scale))) in
    let rest = digits_text (suc scale) (n % 10 ^ suc scale) in
    rw (place_of_point (decimal m) rest ds.0.1, ← append_assoc (decimal m) (46 ∷ []) rest) (drop_at (decimal m ++ 46 ∷ []) rest (length (decimal m) + 1) (simp length-append refl))

-- what a division by a power of ten leaves is below it
pub rest_below : (k n : ℕ) → n % 10 ^ k < 10 ^ k
rest_below k n =
    let ten : 0 < 10 = lit< tt in
    let low : 0 ≤ k = omega arith in
    let some : 10 ^ 0 ≤ 10 ^ k = pow-le-pow_right ten low in
    mod_below n (10 ^ k) (omega arith)

pub small_rest : (k n : ℕ) → k ≤ 18 → n % 10 ^ k < 10 ^ 64
small_rest k n h = let ten : 0 < 10 = lit< tt in let few : 10 ^ k ≤ 10 ^ 18 = pow-le-pow_right ten h in omega (arith, rest_below k n)

pub places_digits : (scale n : ℕ) → scale ≤ 18 → AllDigits 10 (places scale n)
places_digits zero n h = tt
places_digits (suc scale) n h = padded_digits (suc scale) (n % 10 ^ suc scale) (small_rest (suc scale) n h)

pub places_length : (scale n : ℕ) → scale ≤ 18 → length (places scale n) ≡ scale
places_length zero n h = refl
places_length (suc scale) n h = padded_length (suc scale) (n % 10 ^ suc scale) (omega arith) (rest_below (suc scale) n) (small_rest (suc scale) n h)

places_value : (scale n : ℕ) → scale ≤ 18 → digits_value 10 (places scale n) ≡ n % 10 ^ scale
places_value zero n h = omega arith
places_value (suc scale) n h = padded_value (suc scale) (n % 10 ^ suc scale) (small_rest (suc scale) n h)

-- the digits of a magnitude write it
pub magnitude_back : (scale n : ℕ) → scale ≤ 18 → n < 2 ^ 128 → digits_value_after 10 (digits_value 10 (decimal (n / 10 ^ scale))) (places scale n) ≡ n
magnitude_back scale n h small =
    let whole : digits_value 10 (decimal (n / 10 ^ scale)) ≡ n / 10 ^ scale = (decimal_is_IsNumeral_wide (n / 10 ^ scale) (omega (arith, div-le_self n (10 ^ scale)))).1 in
    rw (digits_after-split (digits_value 10 (decimal (n / 10 ^ scale))) (places scale n), whole, places_length scale n h, places_value scale n h) (div-add-mod' n (10 ^ scale))

-- ---- the sign

-- a text of digits, and of digits around a point
plain_no_minus : (scale n : ℕ) → n < 2 ^ 128 → starts_with_minus (plain scale n) ≡ false
plain_no_minus zero n h =
    let ds = decimal_is_IsNumeral_wide n (omega arith) in
    rw (← append-nil (decimal n)) (no_minus (decimal n) [] ds.0.1 ds.0.0)
plain_no_minus (suc scale) n h =
    let m = n / 10 ^ suc scale in
    let ds = decimal_is_IsNumeral_wide m (omega (arith, div-le_self n (10 ^ suc scale))) in
    no_minus (decimal m) (codes "." ++ digits_text (suc scale) (n % 10 ^ suc scale)) ds.0.1 ds.0.0

pub sign_of_scaled : (scale : ℕ) (z : ℤ) → unsigned_abs z < 2 ^ 128 → starts_with_minus (sign_text z ++ plain scale (unsigned_abs z)) ≡ is_negative z
sign_of_scaled scale (pos n) h = plain_no_minus scale n h
sign_of_scaled scale (negsuc n) h = refl

pub unsigned_of_scaled : (scale : ℕ) (z : ℤ) → unsigned_abs z < 2 ^ 128 → unsigned_part (sign_text z ++ plain scale (unsigned_abs z)) ≡ plain scale (unsigned_abs z)
unsigned_of_scaled scale (pos n) h = rw (plain_no_minus scale n h)
unsigned_of_scaled scale (negsuc n) h = refl

signed_back : (z : ℤ) → with_sign (is_negative z) (unsigned_abs z) ≡ z
signed_back (pos n) = refl
signed_back (negsuc n) = refl

-- ---- the whole text

pub record Reads (text : List ℕ) (number : Number) : Type 0 where
  pub whole : AllDigits 10 (whole_digits text)
  pub is : number_of_text text ≡ number

pub abs_small : (z : ℤ) → FitsSigned w128 z → unsigned_abs z < 2 ^ 128
abs_small z h = omega (arith, ints)

reads_parts : (text : List ℕ) (scale : ℕ) (z : ℤ) → scale ≤ 18 → FitsSigned w128 z → unsigned_part text ≡ plain scale (unsigned_abs z) → starts_with_minus text ≡ is_negative z → Reads text (record { decimals = scale; units = z })
reads_parts text scale z few fits part sign =
    let n = unsigned_abs z in
    let small = abs_small z fits in
    let whole : whole_digits text ≡ decimal (n / 10 ^ scale) = rw part (whole_of_plain scale n small) in
    let fraction : fraction_digits text ≡ places scale n = rw part (places_of_plain scale n small) in
    let value : magnitude text ≡ n = rw (whole, fraction) (magnitude_back scale n few small) in
    let units : units_of_text text ≡ z = rw (value, sign) (signed_back z) in
    let numeral = decimal_is_IsNumeral_wide (n / 10 ^ scale) (omega (arith, div-le_self n (10 ^ scale))) in
    record {
      whole = rw whole numeral.0.1;
      is = ap (λ (k : ℕ). record { decimals = k; units = units_of_text text }) (ap length fraction ∙ places_length scale n few) ∙ ap (λ (u : ℤ). record { decimals = scale; units = u }) units;
    }

-- a number's text is a text of that number
pub numbers_read : (number : Number) → CanBeRead number → Reads (number_text number) number
numbers_read number h =
    let scale = number.decimals in
    let z = number.units in
    let small = abs_small z h.fits in
    let e = scaled-plain scale z in
    reads_parts (number_text number) scale z h.few h.fits (rw e (unsigned_of_scaled scale z small)) (rw e (sign_of_scaled scale z small))

-- ---- the bytes of a number's text

pub fails-append : (test : ℕ → Bool) (xs ys : List ℕ) → Fails test xs → Fails test ys → Fails test (xs ++ ys)
fails-append test [] ys h k = k
fails-append test (c ∷ cs) ys h k = (h.0, fails-append test cs ys h.1 k)

-- the test fails at digits, and so at the bytes of numbers
pub record FailsAtNumbers (test : ℕ → Bool) : Type 0 where
  pub minus : test 45 ≡ false
  pub point : test 46 ≡ false
  pub digit : (c : ℕ) → digit_value c < 10 → test c ≡ false

pub digits_fail : (test : ℕ → Bool) → ((c : ℕ) → digit_value c < 10 → test c ≡ false) → (ds : List ℕ) → AllDigits 10 ds → Fails test ds
digits_fail test digit [] h = tt
digits_fail test digit (c ∷ cs) h = (digit c h.0, digits_fail test digit cs h.1)

plain_fails : (test : ℕ → Bool) → FailsAtNumbers test → (scale n : ℕ) → scale ≤ 18 → n < 2 ^ 128 → Fails test (plain scale n)
plain_fails test t zero n few h = digits_fail test t.digit (decimal n) (decimal_is_IsNumeral_wide n (omega arith)).0.1
plain_fails test t (suc scale) n few h =
    let m = n / 10 ^ suc scale in
    let whole = decimal_is_IsNumeral_wide m (omega (arith, div-le_self n (10 ^ suc scale))) in
    fails-append test (decimal m) (codes "." ++ places (suc scale) n) (digits_fail test t.digit (decimal m) whole.0.1)
    (t.point, digits_fail test t.digit (places (suc scale) n) (places_digits (suc scale) n few))

sign_fails : (test : ℕ → Bool) → FailsAtNumbers test → (z : ℤ) → Fails test (sign_text z)
sign_fails test t (pos n) = tt
sign_fails test t (negsuc n) = (t.minus, tt)

pub number_fails : (test : ℕ → Bool) → FailsAtNumbers test → (number : Number) → CanBeRead number → Fails test (number_text number)
number_fails test t number h =
    let z = number.units in
    rw (scaled-plain number.decimals z)
    (fails-append test (sign_text z) (plain number.decimals (unsigned_abs z)) (sign_fails test t z) (plain_fails test t number.decimals (unsigned_abs z) h.few (abs_small z h.fits)))

pub plain_some : (scale n : ℕ) → n < 2 ^ 128 → 0 < length (plain scale n)
plain_some zero n h = (decimal_is_IsNumeral_wide n (omega arith)).0.0
plain_some (suc scale) n h =
    let m = n / 10 ^ suc scale in
    let whole = decimal_is_IsNumeral_wide m (omega (arith, div-le_self n (10 ^ suc scale))) in
    simp length-append (omega (arith, whole.0.0))

number_some : (number : Number) → CanBeRead number → 0 < length (number_text number)
number_some number h =
    let z = number.units in
    rw (scaled-plain number.decimals z) (simp length-append (omega (arith, plain_some number.decimals (unsigned_abs z) (abs_small z h.fits))))

pub others_fail : FailsAtNumbers is_other
others_fail = record { minus = refl; point = refl; digit = λ c h. (let range = digit_from_value c h in grind (arith, nat_tests, range)) }

-- a number's text is an end of an interval
pub number_is_end : (number : Number) → CanBeRead number → IsEnd (number_text number)
number_is_end number h = record { plain = number_fails is_other others_fail number h; some = number_some number h }

-- ---- the texts of ratios

slashes_fail : FailsAtNumbers (λ c. c == 47)
slashes_fail = record { minus = refl; point = refl; digit = λ c h. other_byte c 47 h (omega arith) }

count_digits : (n : ℕ) → n < 2 ^ 64 → AllDigits 10 (decimal n)
count_digits n h = (decimal_is_IsNumeral_wide n (omega arith)).0.1

pub ratio_is_end : (ratio : Ratio) → CanBeDivided ratio → IsEnd (ratio_text ratio)
ratio_is_end ratio h = record {
  plain = fails-append is_other (number_text ratio.sum) (47 ∷ decimal ratio.rows) (number_fails is_other others_fail ratio.sum h.sum)
      (refl, digits_fail is_other others_fail.digit (decimal ratio.rows) (count_digits ratio.rows h.few));
  some = simp length-append (omega (arith, number_some ratio.sum h.sum));
}

-- the parts of a ratio's text are those around its first slash
pub sum_of_ratio : (text : List ℕ) (ratio : Ratio) → CanBeDivided ratio → ratio_text ratio ≡ text → before_first (λ (c : ℕ). c == 47) text ≡ number_text ratio.sum
sum_of_ratio text ratio h e =
    rw (← e) (before_place (λ c. c == 47) (number_text ratio.sum) (47 ∷ decimal ratio.rows) (number_fails (λ c. c == 47) slashes_fail ratio.sum h.sum) refl)

pub rows_of_ratio : (text : List ℕ) (ratio : Ratio) → CanBeDivided ratio → ratio_text ratio ≡ text → after_first (λ (c : ℕ). c == 47) text ≡ decimal ratio.rows
rows_of_ratio text ratio h e =
    let front = number_text ratio.sum in
    let rest = decimal ratio.rows in
    rw (← e, place_behind (λ c. c == 47) front (47 ∷ rest) (number_fails (λ c. c == 47) slashes_fail ratio.sum h.sum) refl, ← append_assoc front (47 ∷ []) rest)
    (drop_at (front ++ 47 ∷ []) rest (length front + 1) (simp length-append refl))
