-- Sums of numbers at the rows of a mask, plane by plane.
use Rattle.std.proofs.Common.{◌≡◌, ℕ, suc, ◌+◌, ◌-◌, ◌*◌, ◌/◌, ◌^◌, ◌<◌, ◌≤◌, min, ◌==◌, ◌%◌, ℤ, pos, ◌+ℤ◌, ◌*ℤ◌, Bool, true, false, ◌&&◌, cond, List, length, map, count_by, get_or, ◌⊎◌, inl, inr, ap, sym, ◌∙◌, arith}
use Rattle.std.specs.Simd.Lanes.{zip2}
use Rattle.std.proofs.Math.Nat.{div-one, div-eq_of_lt, div-le_self, mul-le-mul_left, pow-le-pow_right}
use Rattle.std.proofs.lemmas.Nat.{pow_pos}
use Rattle.std.proofs.lemmas.Int.{ints}
use Rattle.daq_table.specs.Tables.{first_code, planes, spread, width}
use Rattle.query_model.specs.Answers.{total}
use Rattle.known_column.specs.Columns.{KnownColumn, digit_of, is_at_top, number_of, rows_of_column}
use Rattle.known_column.proofs.CodeDigits.{spread_small}
use Rattle.aggregates.specs.Selections.{IsSound, MayHaveValues, early_number, highs_in, lows_in, sum_of_first, sum_where}
use Rattle.aggregates.proofs.EarlyNumbers.{AreDigits, digit_row, early_row}
use Rattle.aggregates.proofs.MaskSums.{AtRows, total_of_multiples, total_wider, sum_of_two, sum_few, sum_further, sum_none, sum_same}
use Rattle.aggregates.proofs.NumberRows.{IsNumber, first_plane, halved, number_row}

-- what is known of a column, and of rows of it
pub record OfColumn (column : KnownColumn) (mask : List Bool) : Type 0 where
  pub sound : IsSound column
  pub rows : length mask ≡ rows_of_column column

-- what is known of a column and of rows that may have values
pub record Counts (column : KnownColumn) (mask : List Bool) : Type 0 where
  pub sound : IsSound column
  pub rows : length mask ≡ rows_of_column column
  pub values : MayHaveValues column mask

pub of_counts : (column : KnownColumn) (mask : List Bool) → Counts column mask → OfColumn column mask
of_counts column mask h = record { sound = h.sound; rows = h.rows }

-- the number that the digits of a prefix make
abbrev pub number_in : KnownColumn → ℕ → ℕ
number_in column p = number_of column.ends column.known.read p

-- its first digits, without so many at the end, added up
abbrev pub sum_short : KnownColumn → List Bool → ℕ → ℕ
sum_short column mask k = sum_where mask (map (λ p. number_in column p / 2 ^ k) column.known.prefixes)

pub numbers : (column : KnownColumn) (mask : List Bool) → Counts column mask → AtRows mask column.known.prefixes (λ p. IsNumber column.ends column.known.read p (number_in column p))
numbers column mask h = λ r below has.
    number_row column.ends column.known.read (get_or column.known.prefixes r 0) h.sound.known.some_read (h.sound.known.legal r 0 below) (h.values r has)

digit_rows : (column : KnownColumn) (mask : List Bool) → OfColumn column mask → AtRows mask column.known.prefixes (λ p. AreDigits column.ends column.known.read p (number_in column p))
digit_rows column mask h = λ r below has. digit_row column.ends column.known.read (get_or column.known.prefixes r 0) h.sound.known.some_read (h.sound.known.legal r 0 below)

-- the planes before the first that holds digits give nothing
pub short_start : (column : KnownColumn) (mask : List Bool) (j : ℕ) → OfColumn column mask → j ≤ first_plane column.ends column.known.read → sum_short column mask (column.known.read - j) ≡ 0
short_start column mask j h is =
    let read = column.known.read in
    let k = read - j in
    let more : 2 ^ (read - first_plane column.ends read) ≤ 2 ^ k = pow-le-pow_right (omega arith) (omega (arith, is)) in
    sum_none mask column.known.prefixes (λ p. number_in column p / 2 ^ k) h.rows (λ r below has. div-eq_of_lt (omega (arith, (digit_rows column mask h r below has).small, more)))

-- so as many of them as one likes are passed over
pub short_same : (column : KnownColumn) (mask : List Bool) (i j : ℕ) → OfColumn column mask → i ≤ j → (j ≤ i) ⊎ (j ≤ first_plane column.ends column.known.read) →
    sum_short column mask (column.known.read - j) ≡ sum_short column mask (column.known.read - i)
short_same column mask i j h less (inl same) = (let e : j ≡ i = omega (arith, less, same) in ap (λ k. sum_short column mask (column.known.read - k)) e)
short_same column mask i j h less (inr first) = short_start column mask j h first ∙ sym (short_start column mask i h (omega (arith, less, first)))

-- what the first planes gave are the first digits
pub short_early : (column : KnownColumn) (mask : List Bool) (early : ℕ) → OfColumn column mask → early ≤ column.known.read → sum_of_first column early mask ≡ sum_short column mask (column.known.read - early)
short_early column mask early h less =
    sum_same mask column.known.prefixes (early_number column early) (λ p. number_in column p / 2 ^ (column.known.read - early)) h.rows
    (λ r below has. early_row column.ends column.known.read early (get_or column.known.prefixes r 0) h.sound.known.some_read less (h.sound.known.legal r 0 below))

pub short_further : (column : KnownColumn) (mask : List Bool) (j : ℕ) → OfColumn column mask → first_plane column.ends column.known.read ≤ j → j < column.known.read →
    sum_short column mask (column.known.read - (j + 1)) ≡ 2 * sum_short column mask (column.known.read - j) + count_by (λ b. b) (zip2 (λ a b. a && b) mask (map (digit_of column.known.read j) column.known.prefixes))
short_further column mask j h from below =
    let read = column.known.read in
    let k = read - (j + 1) in
    let next : suc k ≡ read - j = omega (arith, below) in
    sum_further mask column.known.prefixes (λ p. number_in column p / 2 ^ (read - j)) (λ p. number_in column p / 2 ^ k) (digit_of read j) h.rows (λ r in_rows has.
    let p = get_or column.known.prefixes r 0 in
    halved (number_in column p) k ∙ ap (λ i. 2 * (number_in column p / 2 ^ i) + cond ((number_in column p / 2 ^ k) % 2 == 1) 1 0) next
    ∙ ap (λ b. 2 * (number_in column p / 2 ^ (read - j)) + cond b 1 0) (sym ((digit_rows column mask h r in_rows has).digits j from below)))

pub short_end : (column : KnownColumn) (mask : List Bool) (k : ℕ) → OfColumn column mask → k ≡ 0 → sum_short column mask k ≡ sum_where mask (map (number_in column) column.known.prefixes)
short_end column mask k h none =
    ap (sum_short column mask) none ∙ sum_same mask column.known.prefixes (λ p. number_in column p / 2 ^ 0) (number_in column) h.rows (λ r below has. div-one (number_in column (get_or column.known.prefixes r 0)))

spread_few : (column : KnownColumn) (mask : List Bool) → OfColumn column mask → spread column.ends ≤ 18446744073709551616
spread_few column mask h =
    let most : 2 ^ width column.ends ≤ 2 ^ 64 = pow-le-pow_right (omega arith) h.sound.digits in
    omega (arith, spread_small column.ends, most)

-- all sums on the way fit
pub short_few : (column : KnownColumn) (mask : List Bool) (k : ℕ) → OfColumn column mask → sum_short column mask k ≤ 309485009821345068724781056
short_few column mask k h =
    let d = planes column.ends - column.known.read in
    let sum = sum_few mask column.known.prefixes (λ p. number_in column p / 2 ^ k) 1 18446744073709551616 h.rows (λ r below has.
    let n = number_in column (get_or column.known.prefixes r 0) in
    let some : 1 ≤ 2 ^ d = pow_pos d in
    let more : n * 1 ≤ n * 2 ^ d = mul-le-mul_left n some in
    omega (arith, div-le_self n (2 ^ k), (digit_rows column mask h r below has).few, more, spread_few column mask h)) in
    omega (arith, sum, h.rows, h.sound.known.few_rows)

pub sum_fits : (column : KnownColumn) (mask : List Bool) → OfColumn column mask → sum_where mask (map (number_in column) column.known.prefixes) * 2 ^ (planes column.ends - column.known.read) ≤ 309485009821345068724781056
sum_fits column mask h =
    let d = planes column.ends - column.known.read in
    let sum = sum_few mask column.known.prefixes (number_in column) (2 ^ d) 18446744073709551616 h.rows (λ r below has. omega (arith, (digit_rows column mask h r below has).few, spread_few column mask h)) in
    omega (arith, sum, h.rows, h.sound.known.few_rows)

-- the low ends, added up
pub lows : (column : KnownColumn) (mask : List Bool) → Counts column mask →
    total (lows_in column mask) ≡ (column.ends.base *ℤ pos (count_by (λ b. b) mask)) +ℤ pos (sum_where mask (map (number_in column) column.known.prefixes) * 2 ^ (planes column.ends - column.known.read))
lows column mask h =
    let ends = column.ends in
    let d = planes ends - column.known.read in
    total_of_multiples mask column.known.prefixes ends.base (λ p. ends.base +ℤ pos (p * 2 ^ d - first_code ends)) (number_in column) (2 ^ d) h.rows
    (λ r below has. ap (λ n. ends.base +ℤ pos n) ((numbers column mask h r below has).above))

pub few_planes : (column : KnownColumn) → IsSound column → planes column.ends ≤ 65
few_planes column h = omega (arith, h.digits, one column.ends.nullable)
  where
    one : (b : Bool) → cond {A = ℕ} b 1 0 ≤ 1
    one true = omega arith
    one false = omega arith

-- how far a range's high end lies above its low end, at top's prefix and at the others
pub highs : (column : KnownColumn) (mask : List Bool) (others : ℕ) → Counts column mask →
    count_by (λ b. b) mask ≡ count_by (λ b. b) (zip2 (λ a b. a && b) mask (map (is_at_top column.ends column.known.read) column.known.prefixes)) + others →
    total (highs_in column mask) ≡ total (lows_in column mask)
    +ℤ pos (count_by (λ b. b) (zip2 (λ a b. a && b) mask (map (is_at_top column.ends column.known.read) column.known.prefixes)) * (spread column.ends % 2 ^ (planes column.ends - column.known.read))
    + others * (2 ^ (planes column.ends - column.known.read) - 1))
highs column mask others h parts =
    let ends = column.ends in
    let read = column.known.read in
    let k = 2 ^ (planes ends - read) in
    let wide : ℕ → ℕ = λ p. cond (is_at_top ends read p) (spread ends % k) (k - 1) in
    total_wider mask column.known.prefixes (λ p. ends.base +ℤ pos (min ((p + 1) * k - 1 - first_code ends) (spread ends))) (λ p. ends.base +ℤ pos (p * k - first_code ends)) wide h.rows (λ r below has.
    let p = get_or column.known.prefixes r 0 in
    let number = numbers column mask h r below has in
    let same : min ((p + 1) * k - 1 - first_code ends) (spread ends) ≡ (p * k - first_code ends) + wide p = number.wide ∙ ap (λ n. n + wide p) (sym number.above) in
    ap (λ n. ends.base +ℤ pos n) same ∙ shift ends.base (p * k - first_code ends) (wide p))
    ∙ ap (λ n. total (lows_in column mask) +ℤ pos n) (sum_of_two mask column.known.prefixes (is_at_top ends read) (k - 1) (spread ends % k) others h.rows parts)
  where
    shift : (z : ℤ) (m n : ℕ) → z +ℤ pos (m + n) ≡ (z +ℤ pos m) +ℤ pos n
    shift z m n = omega (arith, ints)
