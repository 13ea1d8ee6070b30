-- Digits one behind another, and the numbers that they write.
use Rattle.std.proofs.Common.{◌≡◌, ℕ, suc, zero, ◌+◌, ◌-◌, ◌*◌, ◌^◌, ◌<◌, ◌≤◌, Bool, true, false, List, [], ◌∷◌, ◌++◌, length, take, drop, replicate, refl, sym, ap, subst, ◌∙◌, arith, Option, Some, None, ℤ, FitsSigned, IsTrue, lit<}
use Rattle.std.proofs.Math.Nat.{pow-le-pow_right}
use Rattle.std.proofs.lemmas.Bool.{and_parts}
use Rattle.std.proofs.lemmas.Bool.Decides.{Decides-eqb}
use Rattle.std.proofs.lemmas.Int.{ints}
use Rattle.std.proofs.lemmas.Int.Digits.{digits_value-lt}
use Rattle.std.proofs.lemmas.List.{take-append-drop}
use Rattle.std.proofs.lemmas.Str.{digit_value_digit}
use Rattle.std.specs.Char.{digit_value}
use Rattle.std.specs.Int.{w64, IsInRange}
use Rattle.std.specs.List.{list_all}
use Rattle.std.specs.Option.{SomeIff}
use Rattle.std.specs.Str.Parse.{AllDigits, digits_value, digits_value_after}
use Rattle.daq_table.specs.CellTexts.{is_zero_digit, with_sign, filled, units, signed_units, HasUnits, IsDecimal}

-- further digits make no number smaller
pub digits_after-ge : (n : ℕ) (ds : List ℕ) → n ≤ digits_value_after 10 n ds
digits_after-ge n [] = omega arith
digits_after-ge n (c ∷ cs) = omega (arith, digits_after-ge (n * 10 + digit_value c) cs)

pub digits_after-append : (n : ℕ) (xs ys : List ℕ) → digits_value_after 10 n (xs ++ ys) ≡ digits_value_after 10 (digits_value_after 10 n xs) ys
digits_after-append n [] ys = refl
digits_after-append n (c ∷ cs) ys = digits_after-append (n * 10 + digit_value c) cs ys

pub digits-append : (xs ys : List ℕ) → AllDigits 10 xs → AllDigits 10 ys → AllDigits 10 (xs ++ ys)
digits-append [] ys h k = k
digits-append (c ∷ cs) ys h k = (h.0, digits-append cs ys h.1 k)

pub digits-take : (n : ℕ) (xs : List ℕ) → AllDigits 10 xs → AllDigits 10 (take n xs)
digits-take zero xs h = tt
digits-take (suc n) [] h = tt
digits-take (suc n) (c ∷ cs) h = (h.0, digits-take n cs h.1)

pub digits-replicate : (n : ℕ) → AllDigits 10 (replicate n 48)
digits-replicate zero = tt
digits-replicate (suc n) = (omega arith, digits-replicate n)

-- zeros are digits
pub digits-zeros : (ds : List ℕ) → IsTrue (list_all is_zero_digit ds) → AllDigits 10 ds
digits-zeros [] h = tt
digits-zeros (c ∷ cs) h =
    let parts = and_parts (is_zero_digit c) (list_all is_zero_digit cs) h in
    let zero_digit : c ≡ 48 = (Decides-eqb c 48).0 parts.0 in
    (rw zero_digit (lit< tt), digits-zeros cs parts.1)

-- a fraction with only zeros behind so many digits
pub digits-fraction : (n : ℕ) (ds : List ℕ) → AllDigits 10 (take n ds) → IsTrue (list_all is_zero_digit (drop n ds)) → AllDigits 10 ds
digits-fraction n ds h k = rw (← take-append-drop n ds) (digits-append (take n ds) (drop n ds) h (digits-zeros (drop n ds) k))

-- a signed number of 64 bits has a magnitude of 64 bits
pub few_units : (minus : Bool) (n : ℕ) → FitsSigned w64 (with_sign minus n) → n < 2 ^ 64
few_units true n h = omega (arith, ints)
few_units false n h = omega (arith, ints)

-- at most so many digits write a number below that power of ten
pub few_digits_small : (ds : List ℕ) (k : ℕ) → AllDigits 10 ds → length ds ≤ k → digits_value 10 ds < 10 ^ k
few_digits_small ds k h few = let ten : 0 < 10 = lit< tt in omega (arith, digits_value-lt 10 ds h, pow-le-pow_right ten few)

-- what an answer says under one description it says under another that holds just as often
pub some_iff : {T : Type 0} (r : Option T) (P Q : Type 0) (v w : T) → SomeIff r P v → (P → Q) → (Q → P) → v ≡ w → SomeIff r Q w
some_iff None P Q v w h to from e = λ q. h (from q)
some_iff (Some x) P Q v w h to from e = (to h.0, h.1 ∙ e)

-- where one digit more makes 64 bits too few, the whole number has more
pub too_long : (n c : ℕ) (cs : List ℕ) → IsInRange 48 57 c → ¬ (n * 10 + (c - 48) < 2 ^ 64) → ¬ (digits_value_after 10 n (c ∷ cs) < 2 ^ 64)
too_long n c cs range h = λ few. h (omega (arith, few, digits_after-ge (n * 10 + digit_value c) cs, digit_value_digit c range))

-- units are read part by part
units-parts : (scale : ℕ) (whole fraction : List ℕ) → units scale whole fraction ≡ digits_value_after 10 (digits_value_after 10 (digits_value_after 10 0 whole) (take scale fraction)) (replicate (scale - length fraction) 48)
units-parts scale whole fraction =
    digits_after-append 0 whole (filled scale fraction) ∙ digits_after-append (digits_value_after 10 0 whole) (take scale fraction) (replicate (scale - length fraction) 48)

pub units_whole : (scale : ℕ) (whole fraction : List ℕ) → HasUnits scale whole fraction → digits_value_after 10 0 whole < 2 ^ 64
units_whole scale whole fraction u =
    let n = digits_value_after 10 0 whole in
    omega (arith, units-parts scale whole fraction, u.few, digits_after-ge n (take scale fraction), digits_after-ge (digits_value_after 10 n (take scale fraction)) (replicate (scale - length fraction) 48))

pub units_kept : (scale : ℕ) (whole fraction : List ℕ) → HasUnits scale whole fraction → digits_value_after 10 (digits_value_after 10 0 whole) (take scale fraction) < 2 ^ 64
units_kept scale whole fraction u =
    let n = digits_value_after 10 0 whole in
    omega (arith, units-parts scale whole fraction, u.few, digits_after-ge (digits_value_after 10 n (take scale fraction)) (replicate (scale - length fraction) 48))

-- the last part decides
pub units_read : (scale : ℕ) (whole fraction : List ℕ) (n : ℕ) (r : Option ℕ) → AllDigits 10 whole → AllDigits 10 (take scale fraction) → n ≡ digits_value_after 10 (digits_value_after 10 0 whole) (take scale fraction)
    → SomeIff r (AllDigits 10 (replicate (scale - length fraction) 48) × (digits_value_after 10 n (replicate (scale - length fraction) 48) < 2 ^ 64)) (digits_value_after 10 n (replicate (scale - length fraction) 48)) → SomeIff r (HasUnits scale whole fraction) (units scale whole fraction)
units_read scale whole fraction n r before behind e h =
    let same : digits_value_after 10 n (replicate (scale - length fraction) 48) ≡ units scale whole fraction = rw e (sym (units-parts scale whole fraction)) in
    some_iff r _ _ _ _ h (λ p. record { before = before; behind = behind; few = omega (arith, same, p.1) })
    (λ u. (digits-replicate (scale - length fraction), omega (arith, same, u.few))) same

pub units_of_decimal : (scale : ℕ) (minus : Bool) (whole fraction : List ℕ) → IsDecimal scale minus whole fraction → HasUnits scale whole fraction
units_of_decimal scale minus whole fraction d = record {
  before = d.before;
  behind = digits-take scale fraction d.behind;
  few = few_units minus (units scale whole fraction) d.fits;
}

pub decimal_read : (scale : ℕ) (minus : Bool) (whole fraction : List ℕ) (n : ℕ) (r : Option ℤ) → 0 < length whole + length fraction → IsTrue (list_all is_zero_digit (drop scale fraction))
    → HasUnits scale whole fraction × (n ≡ units scale whole fraction) → SomeIff r (FitsSigned w64 (with_sign minus n)) (with_sign minus n) → SomeIff r (IsDecimal scale minus whole fraction) (signed_units scale minus whole fraction)
decimal_read scale minus whole fraction n r some places u h =
    let same : with_sign minus n ≡ signed_units scale minus whole fraction = ap (with_sign minus) u.1 in
    some_iff r _ _ _ _ h
    (λ fits. record { some = some; before = u.0.before; behind = digits-fraction scale fraction u.0.behind places; places = places; fits = subst (FitsSigned w64) same fits })
    (λ d. subst (FitsSigned w64) (sym same) d.fits) same
