-- The year, the month and the day of a day number.
use Rattle.std.proofs.Common.{◌≡◌, ℕ, zero, suc, ◌<◌, ◌≤◌, Bool, true, false, cond, ℤ, pos, int_le, nat_abs, unsigned_abs, ◌-ℤ◌, ◌≤ℤ◌, ◌<ℤ◌, inl, inr, ◌∙◌, refl, sym, ap, subst, arith}
use Rattle.std.proofs.lemmas.Bool.{cases_lt}
use Rattle.std.proofs.lemmas.Int.{by_lt_z, ints}
use Rattle.jiff_core.specs.declared.civil.date.Date.{Date}
use Rattle.jiff_core.specs.Calendar.{IsCivilDate, day_count, days_from_civil}
use Rattle.jiff_core.specs.Date.{epoch_day}
use Rattle.jiff_core.proofs.CalendarLemmas.{day_count-day, day_count-day_of_year, day_count-lt_month, day_count-lt_year, days_from_civil-day_count}
use Rattle.jiff_core.proofs.DateLemmas.{civil, days_from_civil-day}
use Rattle.jiff_core.proofs.MarchLemmas.{day_count-early}
use Rattle.jiff_core.proofs.SignedLemmas.{signed_arith}
use Rattle.daq_table.specs.ValueTexts.{IsDay, last_year, last_month, year_of, text_of_date, ymd_text}

by_test : (b : Bool) (n rest m : ℕ) → (b ≡ true → n ≡ m) → (b ≡ false → rest ≡ m) → cond b n rest ≡ m
by_test true n rest m if_true if_false = if_true refl
by_test false n rest m if_true if_false = if_false refl

-- a place that is reached no later than the day, where each later one is reached after it, is the last such place
last_is : (starts : ℕ → ℤ) (n place : ℕ) (day : ℤ) → place ≤ n → int_le (starts n) day ≡ true → ((k : ℕ) → place < k → day <ℤ starts k) → n ≡ place
last_is starts n place day within reached later =
    elim (cases_lt place n) [ inl lt ↦ absurd (omega (arith, signed_arith, reached, later n lt)) | inr le ↦ omega arith ]

not_last : (starts : ℕ → ℤ) (n place : ℕ) (day : ℤ) → place ≤ suc n → int_le (starts (suc n)) day ≡ false → starts place ≤ℤ day → place ≤ n
not_last starts n place day within ahead begun =
    elim (cases_lt n place) [ inl lt ↦ (let e : place ≡ suc n = omega arith in absurd (omega (arith, signed_arith, ahead, subst (λ (k : ℕ). starts k ≤ℤ day) e begun))) | inr le ↦ le ]

-- the year that begins no later than the day, where each later one begins after it
last_year_is : (limit year : ℕ) (day : ℤ) → year ≤ limit → days_from_civil (pos year) 1 1 ≤ℤ day → ((k : ℕ) → year < k → day <ℤ days_from_civil (pos k) 1 1) → last_year limit day ≡ year
unfolding last_year
last_year_is zero year day within begun later = omega arith
last_year_is (suc limit) year day within begun later =
    let starts = λ (k : ℕ). days_from_civil (pos k) 1 1 in
    by_test (int_le (starts (suc limit)) day) (suc limit) (last_year limit day) year
    (λ reached. last_is starts (suc limit) year day within reached later)
    (λ ahead. last_year_is limit year day (not_last starts limit year day within ahead begun) begun later)

-- and so for months
last_month_is : (year limit month : ℕ) (day : ℤ) → month ≤ limit → days_from_civil (pos year) month 1 ≤ℤ day → ((k : ℕ) → month < k → day <ℤ days_from_civil (pos year) k 1) → last_month year limit day ≡ month
unfolding last_month
last_month_is year zero month day within begun later = omega arith
last_month_is year (suc limit) month day within begun later =
    let starts = λ (k : ℕ). days_from_civil (pos year) k 1 in
    by_test (int_le (starts (suc limit)) day) (suc limit) (last_month year limit day) month
    (λ reached. last_is starts (suc limit) month day within reached later)
    (λ ahead. last_month_is year limit month day (not_last starts limit month day within ahead begun) begun later)

-- the parts of a date whose year is not negative, by its numbers
year_of_civil : (year month day : ℕ) → IsCivilDate (pos year) month day → year_of (days_from_civil (pos year) month day) ≡ year
year_of_civil year month day h =
    last_year_is 9999 year (days_from_civil (pos year) month day) (omega (arith, signed_arith, h.0))
    (omega (arith, signed_arith, days_from_civil-day_count, day_count-day_of_year (pos year) month day h.2.0, h.2.0))
    (λ k lt. omega (arith, signed_arith, days_from_civil-day_count, day_count-lt_year (pos year) month day (pos k) 1 1 h (omega arith) (omega (arith, signed_arith))))

month_of_civil : (year month day : ℕ) → IsCivilDate (pos year) month day → last_month year 12 (days_from_civil (pos year) month day) ≡ month
month_of_civil year month day h =
    last_month_is year 12 month (days_from_civil (pos year) month day) h.1.1
    (omega (arith, signed_arith, days_from_civil-day_count, day_count-day (pos year) month day 1 h.2.0 (omega arith), h.2.0))
    (λ k lt. omega (arith, signed_arith, days_from_civil-day_count, day_count-lt_month (pos year) month day k 1 h (omega arith) lt))

day_of_civil : (year month day : ℕ) → IsCivilDate (pos year) month day → suc (nat_abs (days_from_civil (pos year) month day -ℤ days_from_civil (pos year) month 1)) ≡ day
day_of_civil year month day h =
    omega (arith, ints, days_from_civil-day (pos year) month day 1 h.2.0 (omega arith), h.2.0)

text_of_civil : (year month day : ℕ) → IsCivilDate (pos year) month day → ymd_text year month day ≡ text_of_date (days_from_civil (pos year) month day)
text_of_civil year month day h =
    rw (year_of_civil year month day h, month_of_civil year month day h, day_of_civil year month day h)

-- the text of a date of the years from 0 is that of its day number
pub text_of_parts : (d : Date) (day : ℤ) → pos 0 ≤ℤ d.year → epoch_day d ≡ day → ymd_text (unsigned_abs d.year) d.month d.day ≡ text_of_date day
text_of_parts d day h e =
    let year : d.year ≡ pos (unsigned_abs d.year) = omega (arith, ints) in
    text_of_civil (unsigned_abs d.year) d.month d.day (subst (λ (y : ℤ). IsCivilDate y d.month d.day) year (civil d))
    ∙ ap text_of_date (ap (λ (y : ℤ). days_from_civil y d.month d.day) (sym year) ∙ e)

-- the dates with these day numbers
pub year_from : (d : Date) → IsDay (epoch_day d) → pos 0 ≤ℤ d.year
year_from d h =
    let start : day_count (pos 0) 1 1 ≡ 3652425 = day_count-early (pos 0) 9999 1 1 refl (omega arith) (omega arith) (omega arith) in
    by_lt_z d.year (pos 0) (λ lt. absurd (omega (arith, signed_arith, days_from_civil-day_count, h.0, start, day_count-lt_year d.year d.month d.day (pos 0) 1 1 (civil d) (omega arith) lt))) (λ le. le)
