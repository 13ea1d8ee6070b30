-- The test of dates.
use Rattle.std.proofs.Common.{◌≡◌, ℕ, ◌<◌, ◌≤◌, ◌==◌, ◌^◌, Bool, true, false, not, ◌&&◌, List, [], ◌∷◌, length, take, length-take, min, refl, arith, lit<}
use Rattle.std.proofs.Math.Nat.{pow-le-pow_right}
use Rattle.std.proofs.lemmas.Bool.{false_from_ne_true}
use Rattle.std.proofs.lemmas.Int.{ints}
use Rattle.std.proofs.lemmas.Int.Digits.{digits_value-lt}
use Rattle.std.specs.Prelude.{nat_lt, pos, slice_index}
use Rattle.std.specs.Int.{IsInRange}
use Rattle.std.specs.Str.Parse.{AllDigits, digits_value}
use Rattle.jiff_core.specs.Calendar.{IsYear, days_in_month}
use Rattle.daq_table.specs.CellTexts.{IsDateCell, day_digits, month_digits, year_digits}
use Rattle.sql_typing.specs.Kinds.{are_digits, is_date, is_from_one}
use Rattle.sql_typing.proofs.Comparisons.{and_left, and_right, below, both, is_below, is_not_below, not_below, number_same, same_number}

all_digits : (bs : List ℕ) → are_digits bs ≡ true → AllDigits 10 bs
all_digits [] h = tt
all_digits (c ∷ bs) h = (below _ _ (and_left _ _ h), all_digits bs (and_right _ _ h))

digits_all : (bs : List ℕ) → AllDigits 10 bs → are_digits bs ≡ true
digits_all [] h = refl
digits_all (c ∷ bs) h = both _ _ (is_below _ _ h.0) (digits_all bs h.1)

from_one : (most n : ℕ) → is_from_one most n ≡ true → IsInRange 1 most n
from_one most n h =
    let low : 0 < n = below 0 n (and_left (nat_lt 0 n) (not (nat_lt most n)) h) in
    let high : n ≤ most = not_below most n (and_right (nat_lt 0 n) (not (nat_lt most n)) h) in
    (omega arith, high)

in_range : (most n : ℕ) → IsInRange 1 most n → is_from_one most n ≡ true
in_range most n h = both _ _ (is_below 0 n (omega (arith, h.0))) (is_not_below most n h.1)

year_is : (y : ℕ) → y ≤ 9999 → IsYear (pos y)
year_is y h = (omega (arith, ints), omega (arith, ints))

-- four digits write a number of the years of the calendar
few_digits : (ds : List ℕ) → AllDigits 10 ds → length ds ≤ 4 → digits_value 10 ds ≤ 9999
few_digits ds h few =
    let ten : 0 < 10 = lit< tt in
    let power : 10 ^ length ds ≤ 10 ^ 4 = pow-le-pow_right ten few in
    omega (arith, digits_value-lt 10 ds h)

four : (bs : List ℕ) → length (take 4 bs) ≤ 4
four bs = let e : length (take 4 bs) ≡ min 4 (length bs) = length-take 4 bs in omega arith

record AreTrue (a b c d e f g h : Bool) : Type 0 where
  t1 : a ≡ true
  t2 : b ≡ true
  t3 : c ≡ true
  t4 : d ≡ true
  t5 : e ≡ true
  t6 : f ≡ true
  t7 : g ≡ true
  t8 : h ≡ true

apart : (a b c d e f g h : Bool) → (a && b && c && d && e && f && g && h) ≡ true → AreTrue a b c d e f g h
apart a b c d e f g h p8 =
    let p7 = and_left (a && b && c && d && e && f && g) h p8 in
    let p6 = and_left (a && b && c && d && e && f) g p7 in
    let p5 = and_left (a && b && c && d && e) f p6 in
    let p4 = and_left (a && b && c && d) e p5 in
    let p3 = and_left (a && b && c) d p4 in
    let p2 = and_left (a && b) c p3 in
    record {
      t1 = and_left a b p2;
      t2 = and_right a b p2;
      t3 = and_right (a && b) c p3;
      t4 = and_right (a && b && c) d p4;
      t5 = and_right (a && b && c && d) e p5;
      t6 = and_right (a && b && c && d && e) f p6;
      t7 = and_right (a && b && c && d && e && f) g p7;
      t8 = and_right (a && b && c && d && e && f && g) h p8;
    }

joined : (a b c d e f g h : Bool) → AreTrue a b c d e f g h → (a && b && c && d && e && f && g && h) ≡ true
joined a b c d e f g h p = rw (p.t1, p.t2, p.t3, p.t4, p.t5, p.t6, p.t7, p.t8) refl

date_true : (bs : List ℕ) → is_date bs ≡ true → IsDateCell bs
date_true bs h =
    let p = apart (length bs == 10) (slice_index bs 4 == 45) (slice_index bs 7 == 45) (are_digits (year_digits bs)) (are_digits (month_digits bs)) (are_digits (day_digits bs))
    (is_from_one 12 (digits_value 10 (month_digits bs))) (is_from_one (days_in_month (pos (digits_value 10 (year_digits bs))) (digits_value 10 (month_digits bs))) (digits_value 10 (day_digits bs))) h in
    let year = all_digits (year_digits bs) p.t4 in
    record {
      ten = same_number (length bs) 10 p.t1;
      dash = same_number (slice_index bs 4) 45 p.t2;
      second_dash = same_number (slice_index bs 7) 45 p.t3;
      year = year;
      month = all_digits (month_digits bs) p.t5;
      day = all_digits (day_digits bs) p.t6;
      civil = (
        year_is (digits_value 10 (year_digits bs)) (few_digits (year_digits bs) year (four bs)),
        from_one 12 (digits_value 10 (month_digits bs)) p.t7,
        from_one (days_in_month (pos (digits_value 10 (year_digits bs))) (digits_value 10 (month_digits bs))) (digits_value 10 (day_digits bs)) p.t8,
      );
    }

pub date_test : (bs : List ℕ) → IsDateCell bs → is_date bs ≡ true
date_test bs h = joined (length bs == 10) (slice_index bs 4 == 45) (slice_index bs 7 == 45) (are_digits (year_digits bs)) (are_digits (month_digits bs)) (are_digits (day_digits bs))
    (is_from_one 12 (digits_value 10 (month_digits bs))) (is_from_one (days_in_month (pos (digits_value 10 (year_digits bs))) (digits_value 10 (month_digits bs))) (digits_value 10 (day_digits bs)))
    (record {
      t1 = number_same (length bs) 10 h.ten;
      t2 = number_same (slice_index bs 4) 45 h.dash;
      t3 = number_same (slice_index bs 7) 45 h.second_dash;
      t4 = digits_all (year_digits bs) h.year;
      t5 = digits_all (month_digits bs) h.month;
      t6 = digits_all (day_digits bs) h.day;
      t7 = in_range 12 (digits_value 10 (month_digits bs)) h.civil.1;
      t8 = in_range (days_in_month (pos (digits_value 10 (year_digits bs))) (digits_value 10 (month_digits bs))) (digits_value 10 (day_digits bs)) h.civil.2;
    })

pub date_fails : (bs : List ℕ) → (IsDateCell bs → ⊥) → is_date bs ≡ false
date_fails bs h = false_from_ne_true (is_date bs) (λ t. h (date_true bs t))
