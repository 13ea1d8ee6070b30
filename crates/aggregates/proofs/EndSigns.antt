-- Rows of a mask by how their ranges stand to 0.
use Rattle.std.proofs.Common.{◌≡◌, ℕ, ◌+◌, ◌-◌, ◌*◌, ◌%◌, ◌^◌, ◌<◌, ◌≤◌, ◌==◌, nat_lt, min, ℤ, pos, negsuc, ◌+ℤ◌, ◌≤ℤ◌, ◌<ℤ◌, int_lt, nat_abs, Bool, true, false, not, ◌&&◌, ◌||◌, cond, List, length, map, get_or, Some, refl, ap, sym, ◌∙◌, arith}
use Rattle.std.specs.List.{range_with_len}
use Rattle.std.specs.Simd.Lanes.{zip2}
use Rattle.std.proofs.lemmas.Bool.{false≢true}
use Rattle.std.proofs.lemmas.Bool.Decides.{nat_tests}
use Rattle.std.proofs.lemmas.Int.{ints}
use Rattle.std.proofs.lemmas.List.{get_or-map, get_or_default, length-map, same_lists}
use Rattle.std.proofs.lemmas.List.FromFn.{length-map-range_with_len, get_or-map-range_with_len}
use Rattle.std.proofs.lemmas.Simd.{get_or-zip2, length-zip2}
use Rattle.daq_table.specs.declared.head.Ends.{Ends}
use Rattle.daq_table.specs.Tables.{first_code, planes, spread}
use Rattle.query_model.specs.Knowledge.{prefix_of}
use Rattle.known_column.specs.Columns.{KnownColumn, HasZero, is_above_zero, is_below_zero, is_level_zero, is_possible, numbers_at, rows_of_column, rows_where, zero_cell}
use Rattle.aggregates.specs.Selections.{has_row, those_of}
use Rattle.aggregates.proofs.EndSums.{Counts, numbers, number_in}

-- a number above base is below 0
below_zero : (b : ℤ) (x : ℕ) → b ≤ℤ pos 0 → int_lt (b +ℤ pos x) (pos 0) ≡ nat_lt x (nat_abs b)
below_zero (pos n) x h = by_test (nat_lt x n) refl
  where
    by_test : (t : Bool) → nat_lt x n ≡ t → int_lt (pos n +ℤ pos x) (pos 0) ≡ nat_lt x n
    by_test t e = grind (arith, ints, nat_tests)
below_zero (negsuc n) x h = grind (arith, ints, nat_tests)

-- a mask that has each row as it should is those rows
pub all_those : (out within : List Bool) (test : ℕ → Bool) → length out ≡ length within → ((k : ℕ) → k < length within → get_or out k false ≡ (get_or within k false && test k)) → out ≡ those_of within test
all_those out within test same each =
    let f : ℕ → Bool = λ k. has_row within k && test k in
    let n = length within in
    same_lists out (map f (range_with_len 0 n)) (same ∙ sym (length-map-range_with_len f 0 n))
    (λ k d h. get_or_default out k d false h ∙ each k (omega (arith, h, same)) ∙ sym (get_or-map-range_with_len f 0 n k k d (omega (arith, h, same)) (omega arith)))

low_row : (column : KnownColumn) (mask : List Bool) (r : ℕ) → Counts column mask → HasZero column.ends → r < length column.known.prefixes → get_or mask r false ≡ true →
    int_lt (numbers_at column r).low (pos 0)
    ≡ (is_below_zero column.ends column.known.read (get_or column.known.prefixes r 0)
    || (nat_lt 0 (nat_abs column.ends.base % 2 ^ (planes column.ends - column.known.read)) && is_level_zero column.ends column.known.read (get_or column.known.prefixes r 0)))
low_row column mask r h has_zero below has =
    let ends = column.ends in
    let k = 2 ^ (planes ends - column.known.read) in
    let p = get_or column.known.prefixes r 0 in
    let number = numbers column mask h r below has in
    let first = has_zero.0 in
    let last = has_zero.1 in
    let z = nat_abs ends.base in
    let within : z ≤ spread ends = omega (arith, ints) in
    let possible : is_possible ends column.known.read p ≡ true = h.values r has in
    ap (λ n. int_lt (ends.base +ℤ pos n) (pos 0)) number.above ∙ below_zero ends.base (number_in column p * k) first ∙ number.starts z within
    ∙ swap (nat_lt p (prefix_of ends column.known.read (zero_cell ends))) (p == prefix_of ends column.known.read (zero_cell ends)) (nat_lt 0 (z % k))
    ∙ ap (λ b. (b && nat_lt p (prefix_of ends column.known.read (zero_cell ends))) || (nat_lt 0 (z % k) && is_level_zero ends column.known.read p)) (sym possible)
  where
    swap : (a b c : Bool) → (a || (b && c)) ≡ ((true && a) || (c && b))
    swap true b c = refl
    swap false true true = refl
    swap false true false = refl
    swap false false true = refl
    swap false false false = refl

-- a number above base is above 0
above_zero : (b : ℤ) (x : ℕ) → b ≤ℤ pos 0 → int_lt (pos 0) (b +ℤ pos x) ≡ nat_lt (nat_abs b) x
above_zero (pos n) x h = by_test (nat_lt n x) refl
  where
    by_test : (t : Bool) → nat_lt n x ≡ t → int_lt (pos 0) (pos n +ℤ pos x) ≡ nat_lt n x
    by_test t e = grind (arith, ints, nat_tests)
above_zero (negsuc n) x h = grind (arith, ints, nat_tests)

high_row : (column : KnownColumn) (mask : List Bool) (r : ℕ) → Counts column mask → HasZero column.ends → pos 0 <ℤ column.ends.top → r < length column.known.prefixes → get_or mask r false ≡ true →
    int_lt (pos 0) (numbers_at column r).high
    ≡ (is_above_zero column.ends column.known.read (get_or column.known.prefixes r 0)
    || (nat_lt (nat_abs column.ends.base % 2 ^ (planes column.ends - column.known.read) + 1) (2 ^ (planes column.ends - column.known.read)) && is_level_zero column.ends column.known.read (get_or column.known.prefixes r 0)))
high_row column mask r h has_zero top below has =
    let ends = column.ends in
    let k = 2 ^ (planes ends - column.known.read) in
    let p = get_or column.known.prefixes r 0 in
    let number = numbers column mask h r below has in
    let first = has_zero.0 in
    let z = nat_abs ends.base in
    let within : z < spread ends = omega (arith, ints) in
    above_zero ends.base (min ((p + 1) * k - 1 - first_code ends) (spread ends)) first ∙ number.past z within
    ∙ swap (nat_lt (prefix_of ends column.known.read (zero_cell ends)) p) (p == prefix_of ends column.known.read (zero_cell ends)) (nat_lt (z % k + 1) k)
  where
    swap : (a b c : Bool) → (a || (b && c)) ≡ (a || (c && b))
    swap true b c = refl
    swap false true true = refl
    swap false true false = refl
    swap false false true = refl
    swap false false false = refl

-- ---- masks that are made of the marks

pub length_of : (part : Bool) (beyond level : List Bool) → length level ≡ length beyond → length (cond part (zip2 (λ a b. a || b) beyond level) beyond) ≡ length beyond
length_of true beyond level e = length-zip2 (λ a b. a || b) beyond level (sym e)
length_of false beyond level e = refl

marked_rows : (column : KnownColumn) (within beyond level : List Bool) (part : Bool) (outside : Ends → ℕ → ℕ → Bool) (test : ℕ → Bool) →
    length within ≡ rows_of_column column → beyond ≡ rows_where outside column → level ≡ rows_where is_level_zero column →
    ((r : ℕ) → r < length column.known.prefixes → get_or within r false ≡ true →
    test r ≡ (outside column.ends column.known.read (get_or column.known.prefixes r 0) || (part && is_level_zero column.ends column.known.read (get_or column.known.prefixes r 0)))) →
    zip2 (λ a b. a && b) (cond part (zip2 (λ a b. a || b) beyond level) beyond) within ≡ those_of within test
marked_rows column within beyond level part outside test rows beyond_is level_is each =
    let ends = column.ends in
    let ps = column.known.prefixes in
    let chosen = cond part (zip2 (λ a b. a || b) beyond level) beyond in
    let long_beyond : length beyond ≡ length ps = ap length beyond_is ∙ length-map ps (outside ends column.known.read) in
    let long_level : length level ≡ length ps = ap length level_is ∙ length-map ps (is_level_zero ends column.known.read) in
    let long : length chosen ≡ length ps = length_of part beyond level (long_level ∙ sym long_beyond) ∙ long_beyond in
    all_those (zip2 (λ a b. a && b) chosen within) within test (length-zip2 (λ a b. a && b) chosen within (long ∙ sym rows) ∙ long ∙ sym rows) (λ k in_mask.
    let in_rows : k < length ps = omega (arith, in_mask, rows) in
    let a : get_or beyond k false ≡ outside ends column.known.read (get_or ps k 0) = ap (λ l. get_or l k false) beyond_is ∙ get_or-map (outside ends column.known.read) ps k 0 false in_rows in
    let b : get_or level k false ≡ is_level_zero ends column.known.read (get_or ps k 0) = ap (λ l. get_or l k false) level_is ∙ get_or-map (is_level_zero ends column.known.read) ps k 0 false in_rows in
    let got : get_or chosen k false ≡ (get_or beyond k false || (part && get_or level k false)) = at_place part beyond level k (omega (arith, in_rows, long_beyond)) (omega (arith, in_rows, long_level)) in
    get_or-zip2 (λ a b. a && b) chosen within k false false false (omega (arith, in_rows, long)) in_mask
    ∙ by_row (get_or within k false) (get_or chosen k false) (test k) (λ has.
    got ∙ ap (λ x. x || (part && get_or level k false)) a ∙ ap (λ x. outside ends column.known.read (get_or ps k 0) || (part && x)) b ∙ sym (each k in_rows has)))
  where
    at_place : (part : Bool) (beyond level : List Bool) (k : ℕ) → k < length beyond → k < length level → get_or (cond part (zip2 (λ a b. a || b) beyond level) beyond) k false ≡ (get_or beyond k false || (part && get_or level k false))
    at_place true beyond level k h g = get_or-zip2 (λ a b. a || b) beyond level k false false false h g
    at_place false beyond level k h g = none (get_or beyond k false)
      where
        none : (b : Bool) → b ≡ (b || false)
        none true = refl
        none false = refl

    by_row : (w c t : Bool) → (w ≡ true → c ≡ t) → (c && w) ≡ (w && t)
    by_row true c t e = both c t (e refl)
      where
        both : (c t : Bool) → c ≡ t → (c && true) ≡ (true && t)
        both true t e = e
        both false t e = e
    by_row false true t e = refl
    by_row false false t e = refl

pub lows_below : (column : KnownColumn) (within beyond level : List Bool) (part : Bool) → Counts column within → HasZero column.ends →
    part ≡ nat_lt 0 (nat_abs column.ends.base % 2 ^ (planes column.ends - column.known.read)) → beyond ≡ rows_where is_below_zero column → level ≡ rows_where is_level_zero column →
    zip2 (λ a b. a && b) (cond part (zip2 (λ a b. a || b) beyond level) beyond) within ≡ those_of within (λ row. int_lt (numbers_at column row).low (pos 0))
lows_below column within beyond level part h has_zero part_is beyond_is level_is =
    let outside = is_below_zero column.ends column.known.read in
    let at_zero = is_level_zero column.ends column.known.read in
    marked_rows column within beyond level part is_below_zero (λ row. int_lt (numbers_at column row).low (pos 0)) h.rows beyond_is level_is
    (λ r below has. low_row column within r h has_zero below has ∙ ap (λ x. outside (get_or column.known.prefixes r 0) || (x && at_zero (get_or column.known.prefixes r 0))) (sym part_is))

pub highs_above : (column : KnownColumn) (within beyond level : List Bool) (part : Bool) → Counts column within → HasZero column.ends → pos 0 <ℤ column.ends.top →
    part ≡ nat_lt (nat_abs column.ends.base % 2 ^ (planes column.ends - column.known.read) + 1) (2 ^ (planes column.ends - column.known.read)) → beyond ≡ rows_where is_above_zero column → level ≡ rows_where is_level_zero column →
    zip2 (λ a b. a && b) (cond part (zip2 (λ a b. a || b) beyond level) beyond) within ≡ those_of within (λ row. int_lt (pos 0) (numbers_at column row).high)
highs_above column within beyond level part h has_zero top part_is beyond_is level_is =
    let outside = is_above_zero column.ends column.known.read in
    let at_zero = is_level_zero column.ends column.known.read in
    marked_rows column within beyond level part is_above_zero (λ row. int_lt (pos 0) (numbers_at column row).high) h.rows beyond_is level_is
    (λ r below has. high_row column within r h has_zero top below has ∙ ap (λ x. outside (get_or column.known.prefixes r 0) || (x && at_zero (get_or column.known.prefixes r 0))) (sym part_is))

-- ---- masks of all rows and of none

pub rows_left : (column : KnownColumn) → length (rows_where is_possible column) ≡ rows_of_column column
rows_left column = length-map column.known.prefixes (is_possible column.ends column.known.read)

no_test : (out possible within : Bool) → (within ≡ true → possible ≡ true) → ((out && not possible) && within) ≡ (within && false)
no_test true true true h = refl
no_test false true true h = refl
no_test out false true h = absurd (false≢true (h refl))
no_test true true false h = refl
no_test true false false h = refl
no_test false possible false h = refl

-- rows that surely have no value are none of a mask's that has none of them
pub none_left : (column : KnownColumn) (within out possible : List Bool) → Counts column within → possible ≡ rows_where is_possible column → length out ≡ rows_of_column column →
    zip2 (λ a b. a && b) (zip2 (λ a b. a && not b) out possible) within ≡ those_of within (λ row. false)
none_left column within out possible h is long =
    let ps = column.known.prefixes in
    let test = is_possible column.ends column.known.read in
    let possible_long : length possible ≡ length ps = ap length is ∙ rows_left column in
    let taken = zip2 (λ a b. a && not b) out possible in
    let taken_long : length taken ≡ length ps = length-zip2 (λ a b. a && not b) out possible (long ∙ sym possible_long) ∙ long in
    all_those (zip2 (λ a b. a && b) taken within) within (λ row. false) (length-zip2 (λ a b. a && b) taken within (taken_long ∙ sym h.rows) ∙ taken_long ∙ sym h.rows) (λ k below.
    let inside : k < length ps = omega (arith, below, h.rows) in
    get_or-zip2 (λ a b. a && b) taken within k false false false (omega (arith, inside, taken_long)) below
    ∙ ap (λ b. b && get_or within k false) (get_or-zip2 (λ a b. a && not b) out possible k false false false (omega (arith, inside, long)) (omega (arith, inside, possible_long))
    ∙ ap (λ m. get_or out k false && not (get_or m k false)) is ∙ ap (λ b. get_or out k false && not b) (get_or-map test ps k 0 false inside))
    ∙ no_test (get_or out k false) (test (get_or ps k 0)) (get_or within k false) (h.values k))

same_test : (w a b : Bool) → (w ≡ true → a ≡ b) → (w && a) ≡ (w && b)
same_test true a b e = e refl
same_test false a b e = refl

none_of_them : (within : List Bool) (test : ℕ → Bool) → ((k : ℕ) → k < length within → has_row within k ≡ true → test k ≡ false) → those_of within (λ row. false) ≡ those_of within test
none_of_them within test each =
    let f : ℕ → Bool = λ k. has_row within k && false in
    let n = length within in
    all_those (map f (range_with_len 0 n)) within test (length-map-range_with_len f 0 n)
    (λ k h. get_or-map-range_with_len f 0 n k k false h (omega arith) ∙ same_test (has_row within k) false (test k) (λ has. sym (each k h has)))

all_of_them : (within : List Bool) (test : ℕ → Bool) → ((k : ℕ) → k < length within → has_row within k ≡ true → test k ≡ true) → within ≡ those_of within test
all_of_them within test each = all_those within within test refl (λ k h. by_row (has_row within k) (test k) (λ has. each k h has))
  where
    by_row : (w t : Bool) → (w ≡ true → t ≡ true) → w ≡ (w && t)
    by_row true t e = sym (e refl)
    by_row false t e = refl

-- the ends where 0 does not lie inside the column
not_negative : (b : ℤ) (x : ℕ) → pos 0 ≤ℤ b → int_lt (b +ℤ pos x) (pos 0) ≡ false
not_negative b x h = grind (arith, ints)

negative : (b t : ℤ) (x : ℕ) → t <ℤ pos 0 → (b +ℤ pos x) ≤ℤ t → int_lt (b +ℤ pos x) (pos 0) ≡ true
negative b t x h e = grind (arith, ints)

not_positive : (b t : ℤ) (x : ℕ) → t ≤ℤ pos 0 → (b +ℤ pos x) ≤ℤ t → int_lt (pos 0) (b +ℤ pos x) ≡ false
not_positive b t x h e = grind (arith, ints)

positive : (b : ℤ) (x : ℕ) → pos 0 <ℤ b → int_lt (pos 0) (b +ℤ pos x) ≡ true
positive b x h = grind (arith, ints)

pub no_low_below : (column : KnownColumn) (within : List Bool) → pos 0 ≤ℤ column.ends.base → those_of within (λ row. false) ≡ those_of within (λ row. int_lt (numbers_at column row).low (pos 0))
no_low_below column within h = none_of_them within (λ row. int_lt (numbers_at column row).low (pos 0)) (λ k below has. not_negative column.ends.base _ h)

pub all_lows_below : (column : KnownColumn) (within : List Bool) → Counts column within → column.ends.top <ℤ pos 0 → within ≡ those_of within (λ row. int_lt (numbers_at column row).low (pos 0))
all_lows_below column within h top =
    all_of_them within (λ row. int_lt (numbers_at column row).low (pos 0)) (λ k below has.
    let number = numbers column within h k (omega (arith, below, h.rows)) has in
    let ordered = column.ends.ordered in
    let few = number.few in
    let above = number.above in
    negative column.ends.base column.ends.top (get_or column.known.prefixes k 0 * 2 ^ (planes column.ends - column.known.read) - first_code column.ends) top (omega (arith, ints, few, above, ordered)))

pub no_high_above : (column : KnownColumn) (within : List Bool) → column.ends.top ≤ℤ pos 0 → those_of within (λ row. false) ≡ those_of within (λ row. int_lt (pos 0) (numbers_at column row).high)
no_high_above column within top =
    none_of_them within (λ row. int_lt (pos 0) (numbers_at column row).high) (λ k below has.
    let ordered = column.ends.ordered in
    not_positive column.ends.base column.ends.top (min ((get_or column.known.prefixes k 0 + 1) * 2 ^ (planes column.ends - column.known.read) - 1 - first_code column.ends) (spread column.ends)) top (omega (arith, ints, ordered)))

pub all_highs_above : (column : KnownColumn) (within : List Bool) → pos 0 <ℤ column.ends.base → within ≡ those_of within (λ row. int_lt (pos 0) (numbers_at column row).high)
all_highs_above column within h = all_of_them within (λ row. int_lt (pos 0) (numbers_at column row).high) (λ k below has. positive column.ends.base _ h)

at_or_past : (f p q : ℕ) → f ≤ p → 2 ≤ q → (nat_lt f p || (p == f && nat_lt (0 % q + 1) q)) ≡ true
at_or_past f p q h two = (let none : 0 % q ≡ 0 = omega arith in rw none (grind (arith, nat_tests)))

from_zero : (b : ℤ) (x : ℕ) → b ≡ pos 0 → nat_lt 0 x ≡ true → int_lt (pos 0) (b +ℤ pos x) ≡ true
from_zero b x h e = (let some : 0 < x = grind (arith, nat_tests) in grind (arith, ints))

-- where base is 0 and a digit is unread
pub all_highs_from_zero : (column : KnownColumn) (within : List Bool) → Counts column within → column.ends.base ≡ pos 0 → pos 0 <ℤ column.ends.top → 2 ≤ 2 ^ (planes column.ends - column.known.read) →
    within ≡ those_of within (λ row. int_lt (pos 0) (numbers_at column row).high)
all_highs_from_zero column within h base top two =
    all_of_them within (λ row. int_lt (pos 0) (numbers_at column row).high) (λ k below has.
    let number = numbers column within h k (omega (arith, below, h.rows)) has in
    let p = get_or column.known.prefixes k 0 in
    let some : 0 < spread column.ends = omega (arith, ints, base, top) in
    from_zero column.ends.base _ base (number.past 0 some ∙ at_or_past (prefix_of column.ends column.known.read (Some 0)) p (2 ^ (planes column.ends - column.known.read)) number.least two))
