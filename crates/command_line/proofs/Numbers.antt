-- Numbers: the test of a word's digits is the promise of a number.
use Rattle.std.proofs.Common.{◌≡◌, ℕ, Bool, true, false, ◌&&◌, if◌then◌else◌, Option, Some, None, List, length, refl, sym, subst, rules, nat_le, ◌≤◌}
use Rattle.std.proofs.lemmas.Str.Parse.{IsNumeralModel, numerals_by_value}
use Rattle.std.specs.Char.{is_ascii_digit}
use Rattle.std.specs.List.{list_all}
use Rattle.std.specs.Str.Parse.{IsNumeral, digits_value}
use Rattle.command_line.specs.Commands.{IsNumber, IsPartsNumber, most_parts}
use Rattle.command_line.specs.Reading.{number_of, parts_of}

-- the test tells digits
pub own : IsNumeralModel (λ ds. list_all is_ascii_digit ds ≡ true) (digits_value 10)
own = numerals_by_value _ (search rules)

if_some : {A : Type 0} (b : Bool) (v n : A) → (if b then Some v else None) ≡ Some n → (b ≡ true) × (v ≡ n)
if_some true v n e = (refl, cc)
if_some false v n e = cc

pub both : (a b : Bool) → a && b ≡ true → (a ≡ true) × (b ≡ true)
both true b e = (refl, e)
both false b e = cc

pub number_is : (limit : ℕ) (w : List ℕ) (n : ℕ) → number_of limit w ≡ Some n → IsNumber limit w n
unfolding number_of
number_is limit w n e =
    let (tests, same) = if_some _ _ _ e in
    let (front, small) = both _ _ tests in
    let (digits, some) = both _ _ front in
    record { digits = (search (rules, some), own.to w digits); value = sym same; small = search (rules, small, same) }

pub number_some : (limit : ℕ) (w : List ℕ) (n : ℕ) → IsNumber limit w n → number_of limit w ≡ Some n
unfolding number_of
number_some limit w n is =
    let digits : list_all is_ascii_digit w ≡ true = own.from w is.digits.1 in
    let some : nat_le 1 (length w) ≡ true = search (rules, is.digits.0) in
    let small : nat_le (digits_value 10 w) limit ≡ true = search (rules, is.small, is.value) in
    rw (digits, some, small) (rw is.value refl)

none_or_some : (o : Option ℕ) → ((n : ℕ) → o ≡ Some n → ⊥) → o ≡ None
none_or_some None h = refl
none_or_some (Some n) h = absurd (h n refl)

pub number_none : (limit : ℕ) (w : List ℕ) → ((n : ℕ) → IsNumber limit w n → ⊥) → number_of limit w ≡ None
number_none limit w h = none_or_some (number_of limit w) (λ n e. h n (number_is limit w n e))

-- ---- of parts there is one at least

if_same : (b : Bool) (o : Option ℕ) (n : ℕ) → (if b then o else None) ≡ Some n → (b ≡ true) × (o ≡ Some n)
if_same true o n e = (refl, e)
if_same false o n e = cc

pub parts_is : (w : List ℕ) (n : ℕ) → parts_of w ≡ Some n → IsPartsNumber w n
unfolding parts_of
parts_is w n e =
    let (some, same) = if_same _ _ _ e in
    let number = number_is most_parts w n same in
    let value : n ≡ digits_value 10 w = number.value in
    let one : nat_le 1 (digits_value 10 w) ≡ true = some in
    record { is_number = number; some = search (rules, one, value) }

pub parts_some : (w : List ℕ) (n : ℕ) → IsPartsNumber w n → parts_of w ≡ Some n
unfolding parts_of
parts_some w n is =
    let some : nat_le 1 (digits_value 10 w) ≡ true = search (rules, is.some, is.is_number.value) in
    rw some (number_some most_parts w n is.is_number)

pub parts_none : (w : List ℕ) → ((n : ℕ) → IsPartsNumber w n → ⊥) → parts_of w ≡ None
parts_none w h = none_or_some (parts_of w) (λ n e. h n (parts_is w n e))

-- the number of the digits is within the limits
pub parts_there : (w : List ℕ) (n : ℕ) → IsNumeral 10 w → n ≡ digits_value 10 w → 1 ≤ n → n ≤ 65536 → parts_of w ≡ Some n
parts_there w n digits value some few =
    parts_some w n (record { is_number = record { digits = digits; value = value; small = few }; some = some })

-- it is not, or there is none
pub parts_missing : (w : List ℕ) → (IsNumeral 10 w → 1 ≤ digits_value 10 w → digits_value 10 w ≤ 65536 → ⊥) → parts_of w ≡ None
parts_missing w none =
    parts_none w (λ n is. let value = is.is_number.value in none is.is_number.digits (subst (λ m. 1 ≤ m) value is.some)
    (subst (λ m. m ≤ 65536) value is.is_number.small))
