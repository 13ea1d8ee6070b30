-- Whether a text is a value of a kind can be decided.
use Rattle.std.proofs.Common.{◌≡◌, ℕ, ◌+◌, ◌<◌, ◌≤◌, ℤ, pos, Bool, true, false, List, [], ◌∷◌, length, drop, w64, FitsSigned, refl, subst, arith}
use Rattle.std.proofs.Math.Decide.{dec_le, dec_lt, map_dec, ℕ_discrete}
use Rattle.std.proofs.Math.IntN.{ℤ_discrete}
use Rattle.std.proofs.lemmas.Int.{SFits-int_wrap, int_wrap_fits, ints}
use Rattle.std.proofs.lemmas.Str.{IsUtf8-from_is_utf8, is_utf8-from_IsUtf8}
use Rattle.std.specs.Prelude.{slice_index}
use Rattle.std.specs.Char.{digit_value}
use Rattle.std.specs.Int.{IsInRange, int_wrap}
use Rattle.std.specs.List.{list_all}
use Rattle.std.specs.Str.{is_utf8}
use Rattle.std.specs.Str.Parse.{AllDigits, IsNumeral, digits_value, starts_with_minus, without_leading_sign}
use Rattle.jiff_core.specs.Calendar.{IsCivilDate, IsYear, days_in_month}
use Rattle.daq_table.specs.CellTexts.{IsDateCell, IsDecimal, IsIntCell, day_digits, fraction_part, int_value, is_zero_digit, month_digits, signed_units, whole_part, year_digits}
use Rattle.daq_table.specs.declared.head.Kind.{Kind}
use Rattle.daq_table.specs.declared.head.Kind.TheVariants.{Int, Dec as Decimal, Date, Text}
use Rattle.csv_load.specs.Columns.{IsShortText, IsValue}

both : {P Q : Type 0} → Dec P → Dec Q → Dec (P × Q)
both (yes p) (yes q) = yes (p, q)
both (yes p) (no n) = no (λ h. n h.1)
both (no n) d = no (λ h. n h.0)

passes : (b : Bool) → Dec (b ≡ true)
passes true = yes refl
passes false = no (λ h. absurd cc)

digits : (radix : ℕ) (ds : List ℕ) → Dec (AllDigits radix ds)
digits radix [] = yes tt
digits radix (c ∷ cs) = both (dec_lt (digit_value c) radix) (digits radix cs)

fits : (z : ℤ) → Dec (FitsSigned w64 z)
fits z = map_dec (λ (e : int_wrap w64 z ≡ z). subst (FitsSigned w64) e (SFits-int_wrap w64 z)) (λ f. int_wrap_fits w64 z f) (ℤ_discrete (int_wrap w64 z) z)

in_range : (low high n : ℕ) → Dec (IsInRange low high n)
in_range low high n = both (dec_le low n) (dec_le n high)

is_year : (n : ℕ) → Dec (IsYear (pos n))
is_year n = both (yes (omega (arith, ints))) (map_dec (λ (h : n ≤ 9999). omega (arith, ints, h)) (λ h. omega (arith, ints, h)) (dec_le n 9999))

civil : (year month day : ℕ) → Dec (IsCivilDate (pos year) month day)
civil year month day =
    map_dec (λ (h : IsYear (pos year) × (IsInRange 1 12 month × IsInRange 1 (days_in_month (pos year) month) day)). (h.0, h.1.0, h.1.1)) (λ (c : IsCivilDate (pos year) month day). (c.0, (c.1, c.2)))
    (both (is_year year) (both (in_range 1 12 month) (in_range 1 (days_in_month (pos year) month) day)))

int_cell : (text : List ℕ) → Dec (IsIntCell text)
int_cell text =
    let ds = without_leading_sign text in
    map_dec (λ (h : IsNumeral 10 ds × FitsSigned w64 (int_value text)). record { digits = h.0; fits = h.1 }) (λ (c : IsIntCell text). (c.digits, c.fits)) (both (both (dec_lt 0 (length ds)) (digits 10 ds)) (fits (int_value text)))

decimal : (scale : ℕ) (minus : Bool) (whole fraction : List ℕ) → Dec (IsDecimal scale minus whole fraction)
decimal scale minus whole fraction =
    map_dec
    (λ (h : (0 < length whole + length fraction) × (AllDigits 10 whole × (AllDigits 10 fraction × ((list_all is_zero_digit (drop scale fraction) ≡ true) × FitsSigned w64 (signed_units scale minus whole fraction))))).
    record { some = h.0; before = h.1.0; behind = h.1.1.0; places = h.1.1.1.0; fits = h.1.1.1.1 })
    (λ (c : IsDecimal scale minus whole fraction). (c.some, (c.before, (c.behind, (c.places, c.fits)))))
    (both (dec_lt 0 (length whole + length fraction)) (both (digits 10 whole) (both (digits 10 fraction) (both (passes (list_all is_zero_digit (drop scale fraction))) (fits (signed_units scale minus whole fraction))))))

-- the parts of a date's cell
abbrev HasDashes : List ℕ → Type 0
HasDashes text = (length text ≡ 10) × ((slice_index text 4 ≡ 45) × (slice_index text 7 ≡ 45))

abbrev HasDay : List ℕ → Type 0
HasDay text =
    (AllDigits 10 (year_digits text) × (AllDigits 10 (month_digits text) × AllDigits 10 (day_digits text)))
    × IsCivilDate (pos (digits_value 10 (year_digits text))) (digits_value 10 (month_digits text)) (digits_value 10 (day_digits text))

date_cell : (text : List ℕ) → Dec (IsDateCell text)
date_cell text =
    map_dec
    (λ (h : HasDashes text × HasDay text). record { ten = h.0.0; dash = h.0.1.0; second_dash = h.0.1.1; year = h.1.0.0; month = h.1.0.1.0; day = h.1.0.1.1; civil = h.1.1 })
    (λ (c : IsDateCell text). ((c.ten, (c.dash, c.second_dash)), ((c.year, (c.month, c.day)), c.civil)))
    (both
    (both (ℕ_discrete (length text) 10) (both (ℕ_discrete (slice_index text 4) 45) (ℕ_discrete (slice_index text 7) 45)))
    (both (both (digits 10 (year_digits text)) (both (digits 10 (month_digits text)) (digits 10 (day_digits text)))) (civil (digits_value 10 (year_digits text)) (digits_value 10 (month_digits text)) (digits_value 10 (day_digits text)))))

short_text : (text : List ℕ) → Dec (IsShortText text)
short_text text =
    map_dec (λ (h : (is_utf8 text ≡ true) × (length text ≤ 255)). record { utf8 = IsUtf8-from_is_utf8 text h.0; short = h.1 }) (λ (c : IsShortText text). (is_utf8-from_IsUtf8 text c.utf8, c.short)) (both (passes (is_utf8 text)) (dec_le (length text) 255))

pub value_or_not : (kind : Kind) (text : List ℕ) → Dec (IsValue kind text)
value_or_not Int text = int_cell text
value_or_not (Decimal scale) text = decimal scale (starts_with_minus text) (whole_part text) (fraction_part text)
value_or_not Date text = date_cell text
value_or_not Text text = short_text text
