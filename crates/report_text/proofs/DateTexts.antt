-- That the text of a date is read back as its day number, and is no text of a number.
use Rattle.std.proofs.Common.{lit<, ◌≡◌, Bool, ℕ, zero, suc, ◌-◌, ◌^◌, ◌/◌, ◌%◌, ◌<◌, ◌≤◌, ◌==◌, false, drop, take, List, [], ◌∷◌, ◌++◌, length, codes, decimal, ℤ, pos, refl, sym, ap, subst, ◌∙◌, arith}
use Rattle.std.proofs.Math.Nat.{mod-eq-sub-div-mul, pow-le-pow_right}
use Rattle.std.proofs.lemmas.Fmt.{decimal_is_IsNumeral_wide, length-decimal-le_wide}
use Rattle.std.proofs.lemmas.List.{drop_at, length-append, take_all}
use Rattle.std.proofs.lemmas.Nat.{div_below}
use Rattle.std.specs.Char.{digit_value}
use Rattle.std.specs.Str.Parse.{AllDigits, digits_value, starts_with_minus}
use Rattle.std.proofs.lemmas.Str.Parse.{digit_from_value}
use Rattle.jiff_core.specs.Calendar.{IsCivilDate, days_from_civil}
use Rattle.jiff_core.proofs.CalendarLemmas.{days_in_month_bounds}
use Rattle.jiff_core.proofs.SignedLemmas.{signed_arith}
use Rattle.daq_table.specs.CellTexts.{IsDateCell, date_value}
use Rattle.daq_table.specs.Numbers.{digits_text, scaled_text}
use Rattle.daq_table.specs.ValueTexts.{IsDay, day_of, month_of, text_of_date, year_of}
use Rattle.report_text.proofs.Days.{date_of_day}
use Rattle.report_text.proofs.DigitTexts.{no_minus, other_byte, padded_digits, padded_length, padded_value}
use Rattle.report_text.proofs.EndPlaces.{before_place}
use Rattle.report_text.proofs.NumberTexts.{digits_fail, fails-append, numbers_read, others_fail, whole_digits}
use Rattle.report_text.specs.Layouts.{Fails, IsEnd, is_other}
use Rattle.report_text.specs.Numbers.{CanBeRead, number_text}
use Rattle.report_text.specs.declared.numbers.Number.{Number}

-- the bytes of a list of two, and of four
pub record AreTwo (text : List ℕ) : Type 0 where
  pub first : ℕ
  pub second : ℕ
  pub is : text ≡ first ∷ second ∷ []

pub record AreFour (text : List ℕ) : Type 0 where
  pub first : ℕ
  pub second : ℕ
  pub third : ℕ
  pub fourth : ℕ
  pub is : text ≡ first ∷ second ∷ third ∷ fourth ∷ []

two : (text : List ℕ) → length text ≡ 2 → AreTwo text
two [] h = absurd (omega (arith, h))
two (a ∷ []) h = absurd (omega (arith, h))
two (a ∷ b ∷ []) h = record { first = a; second = b; is = refl }
two (a ∷ b ∷ c ∷ more) h = absurd (omega (arith, h))

four : (text : List ℕ) → length text ≡ 4 → AreFour text
four [] h = absurd (omega (arith, h))
four (a ∷ []) h = absurd (omega (arith, h))
four (a ∷ b ∷ []) h = absurd (omega (arith, h))
four (a ∷ b ∷ c ∷ []) h = absurd (omega (arith, h))
four (a ∷ b ∷ c ∷ d ∷ []) h = record { first = a; second = b; third = c; fourth = d; is = refl }
four (a ∷ b ∷ c ∷ d ∷ e ∷ more) h = absurd (omega (arith, h))

-- ten bytes around two dashes
abbrev laid : List ℕ → List ℕ → List ℕ → List ℕ
laid year month day = year ++ codes "-" ++ month ++ codes "-" ++ day

-- digits in the places of a date, of a day that the calendar has
pub record IsLaidDate (year month day : List ℕ) : Type 0 where
  pub years : AllDigits 10 year
  pub months : AllDigits 10 month
  pub days : AllDigits 10 day
  pub civil : IsCivilDate (pos (digits_value 10 year)) (digits_value 10 month) (digits_value 10 day)

abbrev Reads : List ℕ → ℤ → Type 0
Reads text day = IsDateCell text × (date_value text ≡ day)

laid_reads : (a b c d e f g h : ℕ) → IsLaidDate (a ∷ b ∷ c ∷ d ∷ []) (e ∷ f ∷ []) (g ∷ h ∷ []) →
    Reads (laid (a ∷ b ∷ c ∷ d ∷ []) (e ∷ f ∷ []) (g ∷ h ∷ []))
    (days_from_civil (pos (digits_value 10 (a ∷ b ∷ c ∷ d ∷ []))) (digits_value 10 (e ∷ f ∷ [])) (digits_value 10 (g ∷ h ∷ [])))
laid_reads a b c d e f g h l =
    (record { ten = refl; dash = refl; second_dash = refl; year = l.years; month = l.months; day = l.days; civil = l.civil }, refl)

parts_read : (year month day : List ℕ) → AreFour year → AreTwo month → AreTwo day → IsLaidDate year month day →
    Reads (laid year month day) (days_from_civil (pos (digits_value 10 year)) (digits_value 10 month) (digits_value 10 day))
parts_read year month day y m d l =
    let goal = λ (ys ms ds : List ℕ). IsLaidDate ys ms ds → Reads (laid ys ms ds) (days_from_civil (pos (digits_value 10 ys)) (digits_value 10 ms) (digits_value 10 ds)) in
    subst (λ (ys : List ℕ). goal ys month day) (sym y.is)
    (subst (λ (ms : List ℕ). goal (y.first ∷ y.second ∷ y.third ∷ y.fourth ∷ []) ms day) (sym m.is)
    (subst (λ (ds : List ℕ). goal (y.first ∷ y.second ∷ y.third ∷ y.fourth ∷ []) (m.first ∷ m.second ∷ []) ds) (sym d.is)
    (laid_reads y.first y.second y.third y.fourth m.first m.second d.first d.second)))
    l

-- ---- the digits behind the point of a small part of one

small_part : (digits n : ℕ) → 1 ≤ digits → n < 10 ^ digits → scaled_text digits (pos n) ≡ (decimal 0 ++ codes ".") ++ digits_text digits n
small_part zero n some small = absurd (omega (arith, some))
small_part (suc digits) n some small =
    let one = 10 ^ suc digits in
    let below : n / one < 1 = div_below n one 1 (omega (arith, small)) (omega (arith, small)) in
    let whole : n / one ≡ 0 = omega (arith, below) in
    let rest : n % one ≡ n = mod-eq-sub-div-mul n one ∙ rw whole (omega arith) in
    rw (whole, rest) refl

pub behind_point : (text : List ℕ) (digits n : ℕ) (z : ℤ) → 1 ≤ digits → n < 10 ^ digits → text ≡ scaled_text digits z → z ≡ pos n →
    take (length text - 2) (drop 2 text) ≡ digits_text digits n
behind_point text digits n z some small is value =
    let front = decimal 0 ++ codes "." in
    let none : length (decimal 0) ≤ 1 = length-decimal-le_wide 1 0 (omega arith) (omega arith) (omega arith) in
    let two_bytes : length front ≡ 2 = simp length-append (omega (arith, none, (decimal_is_IsNumeral_wide 0 (omega arith)).0.0)) in
    let laid_so : text ≡ front ++ digits_text digits n = is ∙ ap (λ (x : ℤ). scaled_text digits x) value ∙ small_part digits n some small in
    let rest = digits_text digits n in
    rw laid_so
    (ap (λ (t : List ℕ). take (length (front ++ rest) - 2) t) (drop_at front rest 2 two_bytes)
    ∙ take_all (length (front ++ rest) - 2) rest (omega (arith, length-append front rest, two_bytes)))

pub padded_to : (digits n : ℕ) → 1 ≤ digits → digits ≤ 4 → n < 10 ^ digits → length (digits_text digits n) ≡ digits
padded_to digits n some few small =
    let ten : 0 < 10 = lit< tt in
    let most : 10 ^ digits ≤ 10 ^ 4 = pow-le-pow_right ten few in
    padded_length digits n (omega (arith, some)) small (omega (arith, small, most))

-- ---- the text of a date

-- the digits of its year, its month and its day
pub record IsDateText (text : List ℕ) (day : ℤ) : Type 0 where
  pub year : List ℕ
  pub month : List ℕ
  pub days : List ℕ
  pub four_digits : AreFour year
  pub two_digits : AreTwo month
  pub two_more : AreTwo days
  pub laid_so : IsLaidDate year month days
  pub is : text ≡ laid year month days
  pub value : days_from_civil (pos (digits_value 10 year)) (digits_value 10 month) (digits_value 10 days) ≡ day

text_of_day : (day : ℤ) → IsDay day → IsDateText (text_of_date day) day
text_of_day day h =
    let date = date_of_day day h in
    let y = year_of day in
    let m = month_of day in
    let d = day_of day in
    let few_years : y < 10 ^ 4 = omega (arith, signed_arith, date.civil.0.1) in
    let few_months : m < 10 ^ 2 = omega (arith, date.civil.1.1) in
    let few_days : d < 10 ^ 2 = omega (arith, date.civil.2.1, (days_in_month_bounds (pos y) m).0) in
    let years : digits_value 10 (digits_text 4 y) ≡ y = padded_value 4 y (omega (arith, few_years)) in
    let months : digits_value 10 (digits_text 2 m) ≡ m = padded_value 2 m (omega (arith, few_months)) in
    let numbers : digits_value 10 (digits_text 2 d) ≡ d = padded_value 2 d (omega (arith, few_days)) in
    record {
      year = digits_text 4 y;
      month = digits_text 2 m;
      days = digits_text 2 d;
      four_digits = four (digits_text 4 y) (padded_length 4 y (omega arith) few_years (omega (arith, few_years)));
      two_digits = two (digits_text 2 m) (padded_length 2 m (omega arith) few_months (omega (arith, few_months)));
      two_more = two (digits_text 2 d) (padded_length 2 d (omega arith) few_days (omega (arith, few_days)));
      laid_so = record {
        years = padded_digits 4 y (omega (arith, few_years));
        months = padded_digits 2 m (omega (arith, few_months));
        days = padded_digits 2 d (omega (arith, few_days));
        civil = rw (years, months, numbers) date.civil;
      };
      is = refl;
      value = rw (years, months, numbers) date.is;
    }

-- the text of a date is read back as its day number
date_reads_back : (day : ℤ) → IsDay day → Reads (text_of_date day) day
date_reads_back day h =
    let t = text_of_day day h in
    let read = parts_read t.year t.month t.days t.four_digits t.two_digits t.two_more t.laid_so in
    (subst IsDateCell (sym t.is) read.0, ap date_value t.is ∙ read.1 ∙ t.value)

pub date_reads : (text : List ℕ) (day : ℤ) → IsDay day → text_of_date day ≡ text → Reads text day
date_reads text day h e = subst (λ (t : List ℕ). Reads t day) e (date_reads_back day h)

pub date_one : (a b : ℤ) → IsDay a → IsDay b → text_of_date a ≡ text_of_date b → a ≡ b
date_one a b h k e = sym (date_reads (text_of_date b) a h e).1 ∙ (date_reads (text_of_date b) b k refl).1

-- a test that fails at a dash and at digits fails at all its bytes
pub date_fails : (test : ℕ → Bool) → test 45 ≡ false → ((c : ℕ) → digit_value c < 10 → test c ≡ false) → (day : ℤ) → IsDay day → Fails test (text_of_date day)
date_fails test dash digit day h =
    let t = text_of_day day h in
    subst (Fails test) (sym t.is) (laid_fails t.year t.month t.days t.laid_so)
  where
    laid_fails : (year month days : List ℕ) → IsLaidDate year month days → Fails test (laid year month days)
    laid_fails year month days l =
        fails-append test (year ++ codes "-" ++ month ++ codes "-") days
        (fails-append test (year ++ codes "-" ++ month) (codes "-")
        (fails-append test (year ++ codes "-") month
        (fails-append test year (codes "-") (digits_fail test digit year l.years) (dash, tt))
        (digits_fail test digit month l.months)) (dash, tt))
        (digits_fail test digit days l.days)

date_some : (day : ℤ) → IsDay day → 0 < length (text_of_date day)
date_some day h = let t = text_of_day day h in rw t.is (simp length-append (omega arith))

-- it is an end of an interval
pub date_is_end : (day : ℤ) → IsDay day → IsEnd (text_of_date day)
date_is_end day h = record { plain = date_fails is_other refl others_fail.digit day h; some = date_some day h }

-- digits before a dash are no whole digits of a number
no_whole : (a b c d e f g h : ℕ) → IsLaidDate (a ∷ b ∷ c ∷ d ∷ []) (e ∷ f ∷ []) (g ∷ h ∷ []) →
    AllDigits 10 (whole_digits (laid (a ∷ b ∷ c ∷ d ∷ []) (e ∷ f ∷ []) (g ∷ h ∷ []))) → ⊥
no_whole a b c d e f g h l all =
    let years = a ∷ b ∷ c ∷ d ∷ [] in
    let rest = 45 ∷ e ∷ f ∷ 45 ∷ g ∷ h ∷ [] in
    let text = laid years (e ∷ f ∷ []) (g ∷ h ∷ []) in
    let minus : starts_with_minus text ≡ false = no_minus years rest l.years (omega arith) in
    let other = λ (x : ℕ) (k : digit_value x < 10). other_byte x 46 k (omega arith) in
    let fails : Fails (λ (x : ℕ). x == 46) text = (other a l.years.0, (other b l.years.1.0, (other c l.years.1.1.0, (other d l.years.1.1.1.0, (refl, (other e l.months.0, (other f l.months.1.0, (refl, (other g l.days.0, (other h l.days.1.0, tt)))))))))) in
    let whole : whole_digits text ≡ text = rw minus (before_place (λ (x : ℕ). x == 46) text [] fails tt) in
    let digits : AllDigits 10 text = subst (AllDigits 10) whole all in
    let range = digit_from_value 45 digits.1.1.1.1.0 in
    omega (arith, range)

-- and no text of a number
pub date_is_no_number : (number : Number) (day : ℤ) → CanBeRead number → IsDay day → number_text number ≡ text_of_date day → ⊥
date_is_no_number number day h k e =
    let t = text_of_day day k in
    let y = t.four_digits in
    let m = t.two_digits in
    let d = t.two_more in
    let whole : AllDigits 10 (whole_digits (laid t.year t.month t.days)) = subst (λ (x : List ℕ). AllDigits 10 (whole_digits x)) (e ∙ t.is) (numbers_read number h).whole in
    let goal = λ (ys ms ds : List ℕ). IsLaidDate ys ms ds → AllDigits 10 (whole_digits (laid ys ms ds)) → ⊥ in
    subst (λ (ys : List ℕ). goal ys t.month t.days) (sym y.is)
    (subst (λ (ms : List ℕ). goal (y.first ∷ y.second ∷ y.third ∷ y.fourth ∷ []) ms t.days) (sym m.is)
    (subst (λ (ds : List ℕ). goal (y.first ∷ y.second ∷ y.third ∷ y.fourth ∷ []) (m.first ∷ m.second ∷ []) ds) (sym d.is)
    (no_whole y.first y.second y.third y.fourth m.first m.second d.first d.second)))
    t.laid_so whole
