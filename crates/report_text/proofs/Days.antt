-- That the day numbers of the years 0000 to 9999 are those of the dates whose parts their texts show.
use Rattle.std.proofs.Common.{◌≡◌, ℕ, zero, suc, ◌+◌, ◌<◌, ◌≤◌, Bool, true, false, cond, ℤ, pos, int_le, ◌+ℤ◌, ◌≤ℤ◌, ◌<ℤ◌, inl, inr, ◌⊎◌, refl, sym, subst, arith}
use Rattle.std.proofs.lemmas.Int.{ints}
use Rattle.jiff_core.specs.Calendar.{IsCivilDate, day_count, days_from_civil, days_in_month}
use Rattle.jiff_core.proofs.CalendarLemmas.{day_count-day, day_count-end, day_count-last_of_year, day_count-next_month, day_count-next_year, days_from_civil-day_count}
use Rattle.jiff_core.proofs.DateLemmas.{days_from_civil-day}
use Rattle.jiff_core.proofs.MarchLemmas.{day_count-early}
use Rattle.jiff_core.proofs.SignedLemmas.{signed_arith}
use Rattle.daq_table.specs.ValueTexts.{IsDay, day_of, last_month, last_year, month_of, year_of}

-- a place from `least` to `limit` that is reached no later than the day, where each later one is reached after it
record IsLast (starts : ℕ → ℤ) (least limit : ℕ) (day : ℤ) (place : ℕ) : Type 0 where
  least_so : least ≤ place
  within : place ≤ limit
  reached : starts place ≤ℤ day
  later : (k : ℕ) → place < k → k ≤ limit → day <ℤ starts k

-- with one place more
one_more : (starts : ℕ → ℤ) (least limit : ℕ) (day : ℤ) (b : Bool) (place : ℕ) → least ≤ suc limit → int_le (starts (suc limit)) day ≡ b →
    (b ≡ false → IsLast starts least limit day place) → IsLast starts least (suc limit) day (cond b (suc limit) place)
one_more starts least limit day true place some e h = record {
  least_so = some;
  within = omega arith;
  reached = omega (arith, signed_arith, e);
  later = λ k lt le. absurd (omega (arith, lt, le));
}
one_more starts least limit day false place some e h =
    let r = h refl in
    record {
      least_so = r.least_so;
      within = omega (arith, r.within);
      reached = r.reached;
      later = λ k lt le. elim (last_or k le) [
        | inl within ↦ r.later k lt within
        | inr last ↦ subst (λ (n : ℕ). day <ℤ starts n) (sym last) (omega (arith, signed_arith, e))
      ];
    }
  where
    last_or : (k : ℕ) → k ≤ suc limit → (k ≤ limit) ⊎ (k ≡ suc limit)
    last_or k le = grind (arith, le)

year_last : (limit : ℕ) (day : ℤ) → days_from_civil (pos 0) 1 1 ≤ℤ day → IsLast (λ y. days_from_civil (pos y) 1 1) 0 limit day (last_year limit day)
unfolding last_year
year_last zero day h = record { least_so = omega arith; within = omega arith; reached = h; later = λ k lt le. absurd (omega (arith, lt, le)) }
year_last (suc limit) day h =
    one_more (λ y. days_from_civil (pos y) 1 1) 0 limit day (int_le (days_from_civil (pos (suc limit)) 1 1) day) (last_year limit day) (omega arith) refl (λ _. year_last limit day h)

month_last : (year limit : ℕ) (day : ℤ) → days_from_civil (pos year) 1 1 ≤ℤ day →
    IsLast (λ m. days_from_civil (pos year) m 1) 1 (suc limit) day (last_month year (suc limit) day)
unfolding last_month
month_last year zero day h =
    one_more (λ m. days_from_civil (pos year) m 1) 1 0 day (int_le (days_from_civil (pos year) 1 1) day) 0 (omega arith) refl
    (λ ahead. absurd (omega (arith, signed_arith, ahead, h)))
month_last year (suc limit) day h =
    one_more (λ m. days_from_civil (pos year) m 1) 1 (suc limit) day (int_le (days_from_civil (pos year) (suc (suc limit)) 1) day) (last_month year (suc limit) day)
    (omega arith) refl (λ _. month_last year limit day h)

-- the parts of a day number are a date that has it
pub record IsDateOf (day : ℤ) : Type 0 where
  pub civil : IsCivilDate (pos (year_of day)) (month_of day) (day_of day)
  pub is : days_from_civil (pos (year_of day)) (month_of day) (day_of day) ≡ day

first_start : (day : ℤ) → IsDay day → days_from_civil (pos 0) 1 1 ≤ℤ day
first_start day h =
    let start : day_count (pos 0) 1 1 ≡ 3652425 = day_count-early (pos 0) 9999 1 1 refl (omega arith) (omega arith) (omega arith) in
    omega (arith, signed_arith, days_from_civil-day_count (pos 0) 1 1, start, h.0)

-- the next place, or the one behind the last
next_or : (place limit : ℕ) → place ≤ limit → (suc place ≤ limit) ⊎ (place ≡ limit)
next_or place limit h = grind (arith, h)

year_of_day : (day : ℤ) → IsDay day → IsLast (λ n. days_from_civil (pos n) 1 1) 0 9999 day (year_of day)
year_of_day day h = year_last 9999 day (first_start day h)

-- it lies before the next year
before_year : (day : ℤ) → IsDay day → day <ℤ days_from_civil (pos (suc (year_of day))) 1 1
before_year day h =
    let year = year_of_day day h in
    elim (next_or (year_of day) 9999 year.within) [
      | inl within ↦ year.later (suc (year_of day)) (omega arith) within
      | inr last ↦ subst (λ (n : ℕ). day <ℤ days_from_civil (pos (suc n)) 1 1) (sym last)
          (omega (arith, signed_arith, days_from_civil-day_count (pos 10000) 1 1, day_count-end, h.1))
    ]

month_of_day : (day : ℤ) → IsDay day → IsLast (λ m. days_from_civil (pos (year_of day)) m 1) 1 12 day (month_of day)
month_of_day day h = month_last (year_of day) 11 day (year_of_day day h).reached

-- it lies within its month
within_month : (day : ℤ) → IsDay day →
    day <ℤ (days_from_civil (pos (year_of day)) (month_of day) 1 +ℤ pos (days_in_month (pos (year_of day)) (month_of day)))
within_month day h =
    let y = pos (year_of day) in
    let m = month_of day in
    let month = month_of_day day h in
    elim (next_or m 12 month.within) [
      | inl within ↦
          let next = month.later (suc m) (omega arith) within in
          let more : m + 1 ≡ suc m = omega arith in
          let step = subst (λ (n : ℕ). day_count y n 1 ≡ day_count y m 1 + days_in_month y m) more (day_count-next_month y m month.least_so) in
          omega (arith, signed_arith, next, step, days_from_civil-day_count y (suc m) 1, days_from_civil-day_count y m 1)
      | inr last ↦
          let next = before_year day h in
          let year = day_count-next_year y (pos (suc (year_of day))) (omega (arith, signed_arith)) (omega (arith, signed_arith)) in
          let end = day_count-last_of_year y in
          let back = day_count-day y 12 31 1 (omega arith) (omega arith) in
          subst (λ (n : ℕ). day <ℤ (days_from_civil y n 1 +ℤ pos (days_in_month y n))) (sym last)
          (omega (arith, signed_arith, next, year, end, back, days_from_civil-day_count y 12 1, days_from_civil-day_count (pos (suc (year_of day))) 1 1))
    ]

pub date_of_day : (day : ℤ) → IsDay day → IsDateOf day
date_of_day day h =
    let y = pos (year_of day) in
    let m = month_of day in
    let year = year_of_day day h in
    let month = month_of_day day h in
    let reached = month.reached in
    let within = within_month day h in
    let place : (pos (day_of day) +ℤ days_from_civil y m 1) ≡ (day +ℤ pos 1) = omega (arith, ints, reached) in
    record {
      civil = ((omega (arith, signed_arith), omega (arith, signed_arith, year.within)), (month.least_so, month.within), (omega arith, omega (arith, ints, place, within)));
      is = omega (arith, ints, place, days_from_civil-day y m (day_of day) 1 (omega arith) (omega arith));
    }
