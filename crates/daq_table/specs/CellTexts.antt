-- The texts of cells, and the numbers that they stand for.
use Rattle.std.specs.Prelude.{◌≡◌, ℕ, ◌+◌, ◌-◌, ◌^◌, ◌<◌, ◌==◌, Bool, if◌then◌else◌, ℤ}
use Rattle.std.specs.Prelude.{pos, neg_ℤ, List, ◌++◌, length, take, drop, replicate, slice_index, FitsSigned, IsTrue}
use Rattle.std.specs.Int.{w64}
use Rattle.std.specs.List.{after_first, before_first, list_all, slice_range}
use Rattle.std.specs.Str.Parse.{AllDigits, IsNumeral, digits_value, signed_digits_value, starts_with_minus, without_leading_sign}
use Rattle.jiff_core.specs.Calendar.{IsCivilDate, days_from_civil}
use Rattle.daq_table.specs.declared.head.Kind.{Kind}
use Rattle.daq_table.specs.declared.head.Kind.TheVariants.{Int, Dec, Date, Text}

-- the number that a sign and digits write
abbrev pub int_value : List ℕ → ℤ
int_value bytes = signed_digits_value 10 bytes

-- a cell of whole numbers: one digit or more, after at most one sign, and a number of 64 bits
pub record IsIntCell (bytes : List ℕ) : Type 0 where
  pub digits : IsNumeral 10 (without_leading_sign bytes)
  pub fits : FitsSigned w64 (int_value bytes)

abbrev pub is_point : ℕ → Bool
is_point c = c == 46

abbrev pub is_zero_digit : ℕ → Bool
is_zero_digit c = c == 48

abbrev pub with_sign : Bool → ℕ → ℤ
with_sign minus n = if minus then neg_ℤ (pos n) else pos n

-- just so many digits of a fraction, with zeros behind it where it has fewer
abbrev pub filled : ℕ → List ℕ → List ℕ
filled scale fraction = take scale fraction ++ replicate (scale - length fraction) 48

-- the magnitude of a decimal, in units of its last place
abbrev pub units : ℕ → List ℕ → List ℕ → ℕ
units scale whole fraction = digits_value 10 (whole ++ filled scale fraction)

-- the same with its sign
abbrev pub signed_units : ℕ → Bool → List ℕ → List ℕ → ℤ
signed_units scale minus whole fraction = with_sign minus (units scale whole fraction)

-- digits that write a magnitude of 64 bits, whatever stands behind that many places
pub record HasUnits (scale : ℕ) (whole fraction : List ℕ) : Type 0 where
  pub before : AllDigits 10 whole
  pub behind : AllDigits 10 (take scale fraction)
  pub few : units scale whole fraction < 2 ^ 64

-- a decimal: one digit or more before and behind the point, only zeros behind that many places, and a number of 64 bits
pub record IsDecimal (scale : ℕ) (minus : Bool) (whole fraction : List ℕ) : Type 0 where
  pub some : 0 < length whole + length fraction
  pub before : AllDigits 10 whole
  pub behind : AllDigits 10 fraction
  pub places : IsTrue (list_all is_zero_digit (drop scale fraction))
  pub fits : FitsSigned w64 (signed_units scale minus whole fraction)

-- what stands before the point, and all where there is none
abbrev pub whole_part : List ℕ → List ℕ
whole_part bytes = before_first is_point (without_leading_sign bytes)

-- what stands after the point, and nothing where there is none
abbrev pub fraction_part : List ℕ → List ℕ
fraction_part bytes = after_first is_point (without_leading_sign bytes)

-- a decimal cell: after at most one sign a whole part, and after an optional point a fraction
abbrev pub IsDecCell : ℕ → List ℕ → Type 0
IsDecCell scale bytes = IsDecimal scale (starts_with_minus bytes) (whole_part bytes) (fraction_part bytes)

abbrev pub dec_value : ℕ → List ℕ → ℤ
dec_value scale bytes = signed_units scale (starts_with_minus bytes) (whole_part bytes) (fraction_part bytes)

-- the digits of the year, the month and the day in `YYYY-MM-DD`
abbrev pub year_digits : List ℕ → List ℕ
year_digits bytes = slice_range bytes 0 4

abbrev pub month_digits : List ℕ → List ℕ
month_digits bytes = slice_range bytes 5 7

abbrev pub day_digits : List ℕ → List ℕ
day_digits bytes = slice_range bytes 8 10

-- a cell of dates: ten bytes `YYYY-MM-DD`, and a day that the calendar has
pub record IsDateCell (bytes : List ℕ) : Type 0 where
  pub ten : length bytes ≡ 10
  pub dash : slice_index bytes 4 ≡ 45
  pub second_dash : slice_index bytes 7 ≡ 45
  pub year : AllDigits 10 (year_digits bytes)
  pub month : AllDigits 10 (month_digits bytes)
  pub day : AllDigits 10 (day_digits bytes)
  pub civil :
      IsCivilDate (pos (digits_value 10 (year_digits bytes)))
      (digits_value 10 (month_digits bytes)) (digits_value 10 (day_digits bytes))

-- the day number of the date: 0 for 1 January 1970
abbrev pub date_value : List ℕ → ℤ
date_value bytes =
    days_from_civil (pos (digits_value 10 (year_digits bytes)))
    (digits_value 10 (month_digits bytes)) (digits_value 10 (day_digits bytes))

-- the bytes have the form of the kind's cells, and their number is one of 64 bits; a cell of texts has none
abbrev pub IsCellText : Kind → List ℕ → Type 0
IsCellText Int bytes = IsIntCell bytes
IsCellText (Dec scale) bytes = IsDecCell scale bytes
IsCellText Date bytes = IsDateCell bytes
IsCellText Text bytes = ⊥

-- the number that a cell of the kind stands for
abbrev pub cell_number : Kind → List ℕ → ℤ
cell_number Int bytes = int_value bytes
cell_number (Dec scale) bytes = dec_value scale bytes
cell_number Date bytes = date_value bytes
cell_number Text bytes = pos 0
