-- No text of a value of a column is long.
use Rattle.std.proofs.Common.{ℕ, zero, suc, ◌+◌, ◌-◌, ◌*◌, ◌/◌, ◌%◌, ◌^◌, ◌<◌, ◌≤◌, Bool, true, false, cond, nat_eq, List, [], ◌∷◌, ◌++◌, length, ℤ, pos, negsuc, int_le, unsigned_abs, ◌-ℤ◌, arith, codes}
use Rattle.std.proofs.Math.Nat.{div-le_self, one-le-pow}
use Rattle.std.proofs.lemmas.Fmt.{length-decimal-le_wide}
use Rattle.std.proofs.lemmas.Int.{ints}
use Rattle.std.proofs.lemmas.List.{length-append, length-replicate}
use Rattle.std.specs.Fmt.{decimal}
use Rattle.std.specs.List.{All, flat_map}
use Rattle.std.specs.Prelude.{slice_get}
use Rattle.jiff_core.proofs.CalendarLemmas.{days_from_civil-day_count, days_in_month_bounds, days_in_year_bounds}
use Rattle.jiff_core.proofs.SignedLemmas.{signed_arith}
use Rattle.jiff_core.specs.Calendar.{day_count, days_from_civil, days_of_months, days_of_years}
use Rattle.daq_table.specs.declared.head.ColumnHead.{ColumnHead}
use Rattle.daq_table.specs.declared.head.Kind.{Kind}
use Rattle.daq_table.specs.declared.head.Kind.TheVariants.{Int, Dec, Date, Text}
use Rattle.daq_table.specs.Numbers.{digits_text, scaled_text, sign_text}
use Rattle.daq_table.specs.ValueTexts.{HasText, IsDay, day_of, doubled, last_month, last_year, month_of, quoted_text, text_by_kind, text_of_date, text_of_name, text_of_rank, text_of_value, year_of}
use Rattle.daq_report.specs.Ends.{HasNumber, decimals_of}

-- ---- numbers

joined : (a b : List ℕ) (n m : ℕ) → length a ≤ n → length b ≤ m → length (a ++ b) ≤ n + m
joined a b n m p q = simp length-append (omega arith)

decimal_short : (n : ℕ) → n < 2 ^ 128 → length (decimal n) ≤ 40
decimal_short n h = length-decimal-le_wide 40 n (omega arith) (omega arith) (omega arith)

digits_short : (scale n : ℕ) → n < 2 ^ 128 → length (digits_text scale n) ≤ scale + 40
digits_short scale n h = simp (length-append, length-replicate) (omega (arith, decimal_short n h))

sign_short : (z : ℤ) → length (sign_text z) ≤ 1
sign_short (pos n) = omega arith
sign_short (negsuc n) = omega arith

scaled_short : (scale : ℕ) (z : ℤ) → unsigned_abs z < 2 ^ 128 → length (scaled_text scale z) ≤ scale + 82
scaled_short zero (pos n) h = omega (arith, decimal_short n h)
scaled_short zero (negsuc n) h = omega (arith, decimal_short (suc n) h)
scaled_short (suc scale) z h =
    let whole = div-le_self (unsigned_abs z) (10 ^ suc scale) in
    let unit : 1 ≤ 10 ^ suc scale = one-le-pow (suc scale) 10 (omega arith) in
    let front = joined (sign_text z) (decimal (unsigned_abs z / 10 ^ suc scale)) 1 40 (sign_short z) (decimal_short (unsigned_abs z / 10 ^ suc scale) (omega (arith, whole))) in
    let rest = digits_short (suc scale) (unsigned_abs z % 10 ^ suc scale) (omega arith) in
    omega (arith, joined _ _ (41 + 1) (suc scale + 40) (joined _ (codes ".") 41 1 front (omega arith)) rest)

-- ---- dates

last_year_within : (limit : ℕ) (day : ℤ) → last_year limit day ≤ limit
unfolding last_year
last_year_within zero day = omega arith
last_year_within (suc limit) day = by_test (int_le (days_from_civil (pos (suc limit)) 1 1) day) (suc limit) (last_year limit day) (suc limit) (omega arith) (omega (arith, last_year_within limit day))
  where
    by_test : (b : Bool) (n m most : ℕ) → n ≤ most → m ≤ most → cond b n m ≤ most
    by_test true n m most p q = p
    by_test false n m most p q = q

last_month_within : (year limit : ℕ) (day : ℤ) → last_month year limit day ≤ limit
unfolding last_month
last_month_within year zero day = omega arith
last_month_within year (suc limit) day = by_test (int_le (days_from_civil (pos year) (suc limit) 1) day) (suc limit) (last_month year limit day) (suc limit) (omega arith) (omega (arith, last_month_within year limit day))
  where
    by_test : (b : Bool) (n m most : ℕ) → n ≤ most → m ≤ most → cond b n m ≤ most
    by_test true n m most p q = p
    by_test false n m most p q = q

years_short : (n : ℕ) → days_of_years n ≤ 366 * n
unfolding days_of_years
years_short zero = omega arith
years_short (suc n) = omega (arith, years_short n, (days_in_year_bounds (pos n -ℤ pos 10000)).0)

months_short : (y : ℤ) (n : ℕ) → days_of_months y n ≤ 31 * n
unfolding days_of_months
months_short y zero = omega arith
months_short y (suc n) = omega (arith, months_short y n, (days_in_month_bounds y (suc n)).0)

-- the days before a month of these years are few
days_few : (year month : ℕ) → year ≤ 9999 → month ≤ 12 → day_count (pos year) month 1 ≤ 7_400_000
unfolding day_count
days_few year month y m =
    omega (arith, years_short (year + 10000), months_short (pos year) (month - 1))

day_within : (day : ℤ) → IsDay day → day_of day < 2 ^ 128
day_within day h =
    let year = last_year_within 9999 day in
    let month = last_month_within (year_of day) 12 day in
    omega (arith, signed_arith, ints, h.0, h.1, days_from_civil-day_count (pos (year_of day)) (month_of day) 1, days_few (year_of day) (month_of day) year month)

date_short : (day : ℤ) → IsDay day → length (text_of_date day) ≤ 130
date_short day h =
    let year = digits_short 4 (year_of day) (omega (arith, last_year_within 9999 day)) in
    let month = digits_short 2 (month_of day) (omega (arith, last_month_within (year_of day) 12 day)) in
    let days = digits_short 2 (day_of day) (day_within day h) in
    omega (arith, joined _ _ (44 + 1 + 42 + 1) 42 (joined _ (codes "-") (44 + 1 + 42) 1 (joined _ _ (44 + 1) 42 (joined _ (codes "-") 44 1 year (omega arith)) month) (omega arith)) days)

-- ---- names

doubled_short : (c : ℕ) → length (doubled c) ≤ 2
doubled_short c = by_test (nat_eq c 39)
  where
    by_test : (b : Bool) → length (cond b (39 ∷ 39 ∷ []) (c ∷ [])) ≤ 2
    by_test true = omega arith
    by_test false = omega arith

all_doubled : (name : List ℕ) → length (flat_map doubled name) ≤ 2 * length name
all_doubled [] = omega arith
all_doubled (c ∷ cs) = simp length-append (omega (arith, doubled_short c, all_doubled cs))

quoted_short : (name : List ℕ) → length name ≤ 255 → length (quoted_text name) ≤ 512
quoted_short name h = simp length-append (omega (arith, all_doubled name))

name_short : (names : List (List ℕ)) (rank : ℕ) → All (λ name. length name ≤ 255) names → length (text_of_name (slice_get names rank)) ≤ 512
name_short [] rank h = omega arith
name_short (name ∷ names) zero h = quoted_short name (h 0 [] (omega arith))
name_short (name ∷ names) (suc rank) h = name_short names rank (λ k d lt. h (suc k) d (omega arith))

rank_short : (names : List (List ℕ)) (value : ℤ) → All (λ name. length name ≤ 255) names → length (text_of_rank names value) ≤ 512
rank_short names (pos rank) h = name_short names rank h
rank_short names (negsuc n) h = omega arith

-- ---- values

by_kind : (kind : Kind) (names : List (List ℕ)) (value : ℤ) → decimals_of kind < 256 → unsigned_abs value < 2 ^ 128 → HasText kind value → All (λ name. length name ≤ 255) names → length (text_by_kind kind names value) ≤ 512
by_kind Int names value few wide has h = omega (arith, scaled_short 0 value wide)
by_kind (Dec scale) names value few wide has h = omega (arith, scaled_short scale value wide)
by_kind Date names value few wide has h = omega (arith, date_short value has)
by_kind Text names value few wide has h = rank_short names value h

-- a number of the column
pub value_short : (column : ColumnHead) (value : ℤ) → decimals_of column.kind < 256 → unsigned_abs value < 2 ^ 128 → HasNumber column value → length (text_of_value column value) ≤ 512
value_short column value few wide h = by_kind column.kind column.names value few wide (h.texts.between value h.above h.below) h.texts.names
