-- A plain decimal is a decimal cell.
use Rattle.std.proofs.Common.{◌≡◌, ℕ, ◌+◌, ◌-◌, ◌^◌, ◌<◌, ◌≤◌, Bool, true, false, List, [], ◌++◌, length, take, drop, get_or, refl, sym, ap, subst, ◌∙◌, arith, FitsSigned, nat_eq, if◌then◌else◌}
use Rattle.std.proofs.lemmas.Bool.Decides.{nat_tests}
use Rattle.std.proofs.lemmas.Int.{ints}
use Rattle.std.proofs.lemmas.List.{append-nil, drop_all, get_or-take, length-drop, length-take-le, take_all}
use Rattle.std.proofs.lemmas.List.Sums.{position_or_len_is}
use Rattle.std.proofs.lemmas.Str.Parse.{digit_at}
use Rattle.std.specs.Int.{w64}
use Rattle.std.specs.List.{position_or_len}
use Rattle.std.specs.Str.Parse.{AllDigits, digits_value, digits_value_after, starts_with_minus, without_leading_sign}
use Rattle.daq_table.proofs.CellDigits.{digits_after-append}
use Rattle.daq_table.specs.CellTexts.{IsDecCell, IsDecimal, dec_value, filled, is_point, signed_units, units, with_sign}

fits : (minus : Bool) (n : ℕ) → n < 2 ^ 63 → FitsSigned w64 (with_sign minus n)
fits true n h = record { sfits = omega (arith, ints, h) }
fits false n h = record { sfits = omega (arith, ints, h) }

no_plus : (c : ℕ) → 48 ≤ c → nat_eq c 43 ≡ false
no_plus c h = grind (arith, nat_tests)

no_point : (c : ℕ) → 48 ≤ c → is_point c ≡ false
no_point c h = grind (arith, nat_tests)

-- bytes that begin with a digit have no sign
unsigned : (bytes : List ℕ) → 48 ≤ get_or bytes 0 0 → without_leading_sign bytes ≡ bytes
unsigned bytes h = rw (no_minus, no_plus (get_or bytes 0 0) h) refl
  where
    no_minus : nat_eq (get_or bytes 0 0) 45 ≡ false
    no_minus = grind (arith, nat_tests)

-- the bytes behind a minus are those behind a sign, where they begin with a digit
pub behind_sign : (bytes digits : List ℕ) → digits ≡ (if starts_with_minus bytes then drop 1 bytes else bytes) → 48 ≤ get_or digits 0 0 → without_leading_sign bytes ≡ digits
behind_sign bytes digits e h = by (starts_with_minus bytes) refl
  where
    by : (b : Bool) → starts_with_minus bytes ≡ b → without_leading_sign bytes ≡ digits
    by true m = rw m (sym (rw m at e))
    by false m = let same : digits ≡ bytes = rw m at e in unsigned bytes (subst (λ (xs : List ℕ). 48 ≤ get_or xs 0 0) same h) ∙ sym same

-- the first point stands behind digits
pub point_at : (xs : List ℕ) (i : ℕ) → i < length xs → AllDigits 10 (take i xs) → get_or xs i 0 ≡ 46 → position_or_len is_point xs ≡ i
point_at xs i lt ds p = position_or_len_is is_point xs i 0 (omega (arith, lt)) (λ k kl. no_point (get_or xs k 0) (digit k kl)) (λ _. rw p refl)
  where
    digit : (k : ℕ) → k < i → 48 ≤ get_or xs k 0
    digit k kl = let at = digit_at (take i xs) k ds (omega (arith, kl, length-take-le i xs (omega (arith, lt)))) in omega (arith, at, get_or-take i xs k 0 kl)

-- a fraction of just so many places is full
full : (scale : ℕ) (fraction : List ℕ) → length fraction ≡ scale → filled scale fraction ≡ fraction
full scale fraction e =
    let all : take scale fraction ≡ fraction = take_all scale fraction (omega (arith, e)) in
    let none : scale - length fraction ≡ 0 = omega (arith, e) in
    rw (all, none) (append-nil fraction)

parts_decimal : (scale n : ℕ) (minus : Bool) (whole fraction : List ℕ) → 0 < length whole → length fraction ≡ scale → AllDigits 10 whole → AllDigits 10 fraction
    → n ≡ digits_value_after 10 (digits_value_after 10 0 whole) fraction → n < 2 ^ 63 → IsDecimal scale minus whole fraction × (with_sign minus n ≡ signed_units scale minus whole fraction)
parts_decimal scale n minus whole fraction some e w f v small = (
  record {
    some = omega (arith, some);
    before = w;
    behind = f;
    places = rw none refl;
    fits = subst (λ (m : ℕ). FitsSigned w64 (with_sign minus m)) number (fits minus n small);
  },
  ap (with_sign minus) number,
)
  where
    number : n ≡ units scale whole fraction
    number = v ∙ sym (digits_after-append 0 whole fraction) ∙ ap (λ (ds : List ℕ). digits_value 10 (whole ++ ds)) (sym (full scale fraction e))

    none : drop scale fraction ≡ []
    none = drop_all scale fraction (omega (arith, e))

pub plain_decimal : (scale i n : ℕ) (bytes xs : List ℕ) → xs ≡ (if starts_with_minus bytes then drop 1 bytes else bytes) → 0 < i → i + 1 + scale ≡ length xs → get_or xs i 0 ≡ 46
    → AllDigits 10 (take i xs) → AllDigits 10 (drop (i + 1) xs) → n ≡ digits_value_after 10 (digits_value_after 10 0 (take i xs)) (drop (i + 1) xs) → n < 2 ^ 63
    → IsDecCell scale bytes × (with_sign (starts_with_minus bytes) n ≡ dec_value scale bytes)
plain_decimal scale i n bytes xs e some long p w f v small =
    rw (plain, place) (parts_decimal scale n (starts_with_minus bytes) (take i xs) (drop (i + 1) xs) (omega (arith, front, some)) (omega (arith, length-drop (i + 1) xs, long)) w f v small)
  where
    front : length (take i xs) ≡ i
    front = length-take-le i xs (omega (arith, long))

    first : 48 ≤ get_or xs 0 0
    first = let at = digit_at (take i xs) 0 w (omega (arith, front, some)) in omega (arith, at, get_or-take i xs 0 0 some)

    plain : without_leading_sign bytes ≡ xs
    plain = behind_sign bytes xs e first

    place : position_or_len is_point xs ≡ i
    place = point_at xs i (omega (arith, long)) w p
