-- The texts of numbers with decimals.
use Rattle.std.specs.Prelude.{◌≡◌, ℕ, zero, suc, ◌/◌, ◌%◌, ◌^◌, ◌<◌, ◌≤◌, Bool, true, false, ℤ, pos, negsuc, FitsSigned}
use Rattle.std.specs.Prelude.{List, ◌++◌, codes, decimal, drop, get_or, length, if◌then◌else◌}
use Rattle.std.specs.Int.{w128}
use Rattle.std.specs.Str.Parse.{starts_with_minus}
use Rattle.daq_table.specs.Numbers.{digits_text, scaled_text}
use Rattle.report_text.specs.declared.numbers.Magnitude.{Magnitude}
use Rattle.report_text.specs.declared.numbers.Number.{Number}

-- the text of a number in a report
abbrev pub number_text : Number → List ℕ
number_text number = scaled_text number.decimals number.units

-- a number of 128 bits, with decimals that a column may have
pub record CanBeRead (number : Number) : Type 0 where
  pub few : number.decimals ≤ 18
  pub fits : FitsSigned w128 number.units

-- ---- its parts

abbrev pub is_negative : ℤ → Bool
is_negative (pos n) = false
is_negative (negsuc n) = true

-- the text behind its minus, if it has one
abbrev pub unsigned_part : List ℕ → List ℕ
unsigned_part text = if starts_with_minus text then drop 1 text else text

-- what stands behind its minus: digits, and around a point where there are decimals
abbrev pub plain : ℕ → ℕ → List ℕ
plain zero n = decimal n
plain (suc scale) n = decimal (n / 10 ^ suc scale) ++ (codes "." ++ digits_text (suc scale) (n % 10 ^ suc scale))

abbrev pub plain_text : Magnitude → List ℕ
plain_text magnitude = plain magnitude.decimals magnitude.units

pub record CanBeReadPlain (magnitude : Magnitude) : Type 0 where
  pub few : magnitude.decimals ≤ 18
  pub fits : magnitude.units < 2 ^ 128

-- it has decimals, and these are its digits before the point and behind it
pub record HasDigits (magnitude : Magnitude) (whole fraction : List ℕ) : Type 0 where
  pub some : 0 < magnitude.decimals
  pub before : decimal (magnitude.units / 10 ^ magnitude.decimals) ≡ whole
  pub behind : digits_text magnitude.decimals (magnitude.units % 10 ^ magnitude.decimals) ≡ fraction

-- some digits, without a zero before others
pub record IsTrimmed (digits : List ℕ) : Type 0 where
  pub some : 0 < length digits
  pub first : get_or digits 0 0 ≡ 48 → length digits ≡ 1
