-- Rows parted by their prefixes, plane by plane, and the sides of their blocks.
use Rattle.std.proofs.Common.{◌≡◌, ◌⊎◌, inl, inr, ℕ, ℤ, suc, ◌+◌, ◌-◌, ◌*◌, ◌^◌, ◌<◌, ◌≤◌, ◌==◌, nat_lt, min, Bool, true, false, not, ◌&&◌, ◌||◌, List, [], ◌∷◌, length, map, replicate, take, drop, get_or, slice_get, cond, if◌then◌else◌, Some, None, IsTrue, refl, ap, sym, subst, ◌∙◌, arith}
use Rattle.std.specs.Prelude.{nat_abs, ◌-ℤ◌}
use Rattle.std.specs.List.{position, position_or_len}
use Rattle.std.proofs.lemmas.Bool.{eqb-true, false≢true}
use Rattle.std.proofs.lemmas.Bool.Decides.{nat_tests}
use Rattle.std.proofs.lemmas.Int.{ints}
use Rattle.std.proofs.lemmas.List.{get_or-take, get_or-drop, get_or-map, length-map}
use Rattle.std.proofs.lemmas.List.Quantifiers.{position-Some}
use Rattle.std.proofs.lemmas.List.Sums.{fails_before_first}
use Rattle.std.proofs.lemmas.Nat.{le-div, pow_pos}
use Rattle.std.proofs.lemmas.Option.{get_or_from_slice_get}
use Rattle.plane_kernels.specs.Rows.{bits_of, block_rows, digit_at, kept_rows}
use Rattle.plane_kernels.proofs.RowLemmas.{get-bits_of}
use Rattle.daq_table.specs.declared.head.Ends.{Ends}
use Rattle.daq_table.specs.Tables.{code, first_code, planes, spread}
use Rattle.query_model.specs.declared.bounds.Nullity.{Nullity}
use Rattle.query_model.specs.declared.bounds.Nullity.TheVariants.{Always, Never, Possibly}
use Rattle.query_model.specs.declared.bounds.Truth.{Truth}
use Rattle.query_model.specs.declared.query.Comparison.{Comparison}
use Rattle.query_model.specs.Knowledge.{IsLegal, bit_at, longer, prefix_of, range_of}
use Rattle.query_model.specs.Meaning.{compares}
use Rattle.query_model.specs.declared.bounds.Truth.TheVariants.{False, Unknown, True}
use Rattle.query_model.specs.Truths.{may_be_null, may_be_number, truth_over, truths_from, truths_over}
use Rattle.known_column.specs.Columns.{KnownColumn, missing_at, numbers_at, range_at, rows_of_column, rows_where}
use Rattle.known_column.specs.RowBlocks.{IsKnownColumn}
use Rattle.known_column.proofs.CodeDigits.{prefix_further, spread_small}
use Rattle.known_column.proofs.FirstMarks.{none_known}
use Rattle.known_column.proofs.Growing.{map-longer_or, map-longer_same}
use Rattle.known_column.proofs.Nulls.{legal_code}
use Rattle.known_column.proofs.Steps.{equal_further}
use Rattle.kleene_filter.specs.declared.parted.BlockSides.{BlockSides}
use Rattle.kleene_filter.specs.declared.parted.Sides.{Sides}
use Rattle.kleene_filter.specs.declared.parted.Sides.TheVariants as sides
use Rattle.kleene_filter.specs.Blocks.{at_best, bit_in}
use Rattle.kleene_filter.specs.Parted.{cell_with, equal_at, greater_holds, is_level, is_passed, less_holds, others_hold, passed_at, passed_rows, AreBlockSides, HasRow, HasSides, IsAtEqual, IsBetweenEnds, IsTruthAt, ReadFurther}
use Rattle.kleene_filter.proofs.SideTruths.{IsTold, told_all_less, told_all_greater, told_parted}

-- ---- words of masks

-- a bit of a block's word is the bit of its row
pub mask_bit : (mask : List Bool) (word block r : ℕ) → bits_of (min 64 (length mask - 64 * block)) word ≡ take 64 (drop (64 * block) mask) → r < 64 → 64 * block + r < length mask → digit_at r word ≡ get_or mask (64 * block + r) false
mask_bit mask word block r e few below =
    let n = min 64 (length mask - 64 * block) in
    let here : slice_get (bits_of n word) r ≡ Some (digit_at r word) = get-bits_of n word r (omega arith) in
    sym (get_or_from_slice_get (bits_of n word) r (digit_at r word) false here) ∙ ap (λ l. get_or l r false) e ∙ get_or-take 64 (drop (64 * block) mask) r false few ∙ get_or-drop (64 * block) mask r false

-- a row of a column is one of these where its prefix passes the test
pub row_where : (test : Ends → ℕ → ℕ → Bool) (column : KnownColumn) (mask : List Bool) (row : ℕ) → mask ≡ rows_where test column → row < rows_of_column column → get_or mask row false ≡ test column.ends column.known.read (get_or column.known.prefixes row 0)
row_where test column mask row is below = ap (λ l. get_or l row false) is ∙ get_or-map (test column.ends column.known.read) column.known.prefixes row 0 false below

pub length_where : (test : Ends → ℕ → ℕ → Bool) (column : KnownColumn) (mask : List Bool) → mask ≡ rows_where test column → length mask ≡ rows_of_column column
length_where test column mask is = ap length is ∙ length-map column.known.prefixes (test column.ends column.known.read)

pub where_row : (test : Ends → ℕ → ℕ → Bool) (column : KnownColumn) (mask : List Bool) (rows : List ℕ) (block r : ℕ) → mask ≡ rows_where test column →
    ((r : ℕ) → r < 512 → 512 * block + r < length mask → bit_in r rows ≡ get_or mask (512 * block + r) false) → r < block_rows (rows_of_column column) block →
    bit_in r rows ≡ test column.ends column.known.read (get_or column.known.prefixes (512 * block + r) 0)
where_row test column mask rows block r is read few =
    let long = length_where test column mask is in
    read r (omega (arith, few)) (omega (arith, few, long)) ∙ row_where test column mask (512 * block + r) is (omega (arith, few))

-- ---- one plane more

less_true : (m m' p : ℕ) (b : Bool) → m' ≡ 2 * m + 1 → nat_lt (2 * p + cond b 1 0) m' ≡ (nat_lt p m || ((p == m) && not b))
less_true m m' p true e = grind (arith, nat_tests)
less_true m m' p false e = grind (arith, nat_tests)

less_false : (m m' p : ℕ) (b : Bool) → m' ≡ 2 * m + 0 → nat_lt (2 * p + cond b 1 0) m' ≡ nat_lt p m
less_false m m' p true e = grind (arith, nat_tests)
less_false m m' p false e = grind (arith, nat_tests)

greater_true : (m m' p : ℕ) (b : Bool) → m' ≡ 2 * m + 1 → nat_lt m' (2 * p + cond b 1 0) ≡ nat_lt m p
greater_true m m' p true e = grind (arith, nat_tests)
greater_true m m' p false e = grind (arith, nat_tests)

greater_false : (m m' p : ℕ) (b : Bool) → m' ≡ 2 * m + 0 → nat_lt m' (2 * p + cond b 1 0) ≡ (nat_lt m p || ((p == m) && b))
greater_false m m' p true e = grind (arith, nat_tests)
greater_false m m' p false e = grind (arith, nat_tests)

last_first : (x y z : Bool) → ((x || y) || z) ≡ ((x || z) || y)
last_first true y z = refl
last_first false true true = refl
last_first false true false = refl
last_first false false true = refl
last_first false false false = refl

grouped : (x y z : Bool) → (x || (y || z)) ≡ ((x || y) || z)
grouped true y z = refl
grouped false y z = refl

-- a prefix is less than m and that counts, or is greater and that counts
abbrev pub beside : Bool → Bool → ℕ → ℕ → Bool
beside l g m p = (l && nat_lt p m) || (g && nat_lt m p)

beside_true : (g : Bool) (m m' p : ℕ) (b : Bool) → m' ≡ 2 * m + 1 → beside true g m' (2 * p + cond b 1 0) ≡ (beside true g m p || ((p == m) && not b))
beside_true g m m' p b e =
    ap (λ x. x || (g && nat_lt m' (2 * p + cond b 1 0))) (less_true m m' p b e) ∙ ap (λ x. (nat_lt p m || ((p == m) && not b)) || (g && x)) (greater_true m m' p b e)
    ∙ last_first (nat_lt p m) ((p == m) && not b) (g && nat_lt m p)

beside_false : (l : Bool) (m m' p : ℕ) (b : Bool) → m' ≡ 2 * m + 0 → beside l true m' (2 * p + cond b 1 0) ≡ (beside l true m p || ((p == m) && b))
beside_false l m m' p b e =
    ap (λ x. (l && x) || nat_lt m' (2 * p + cond b 1 0)) (less_false m m' p b e) ∙ ap (λ x. (l && nat_lt p m) || x) (greater_false m m' p b e)
    ∙ grouped (l && nat_lt p m) (nat_lt m p) ((p == m) && b)

passed_further : (l g : Bool) (m m' : ℕ) (digit : Bool) → m' ≡ 2 * m + cond digit 1 0 → (ps : List ℕ) (bits : List Bool) → length bits ≡ length ps →
    map (beside l g m') (longer ps bits) ≡ passed_rows (if digit then l else g) digit (map (beside l g m) ps) (map (λ p. p == m) ps) bits
passed_further true g m m' true e ps bits same = map-longer_or (beside true g m') (beside true g m) (λ p. p == m) (λ a b. a && not b) (λ p b. beside_true g m m' p b e) ps bits same
passed_further false g m m' true e ps bits same = map-longer_same (beside false g m') (beside false g m) (λ p b. ap (λ x. g && x) (greater_true m m' p b e)) ps bits same
passed_further l true m m' false e ps bits same = map-longer_or (beside l true m') (beside l true m) (λ p. p == m) (λ a b. a && b) (λ p b. beside_false l m m' p b e) ps bits same
passed_further l false m m' false e ps bits same = map-longer_same (beside l false m') (beside l false m) (λ p b. ap (λ x. (l && x) || false) (less_false m m' p b e)) ps bits same

-- a number's prefix and the rows of a column, after one plane more
module _ (before column : KnownColumn) (bits : List Bool) (value : ℤ) (bit : Bool) (further : ReadFurther before bits column) (digit : bit ≡ bit_at before.ends before.known.read (cell_with value before.ends)) where
  abbrev now : ℕ
  now = prefix_of before.ends before.known.read (cell_with value before.ends)

  abbrev later : ℕ
  later = prefix_of before.ends (before.known.read + 1) (cell_with value before.ends)

  next : later ≡ 2 * now + cond bit 1 0
  next = prefix_further before.ends before.known.read (cell_with value before.ends) further.unread ∙ ap (λ b. 2 * now + cond b 1 0) (sym digit)

  pub equal_next : (equal : List Bool) → equal ≡ rows_where (is_level value) before → kept_rows bit equal bits ≡ rows_where (is_level value) column
  equal_next equal stood =
      ap (λ l. kept_rows bit l bits) stood ∙ sym (equal_further now later bit next before.known.prefixes bits) ∙ ap (rows_where (is_level value)) (sym further.is)

  pub passed_next : (op : Comparison) (passed equal : List Bool) → passed ≡ rows_where (is_passed op value) before → equal ≡ rows_where (is_level value) before →
      passed_rows (others_hold op bit) bit passed equal bits ≡ rows_where (is_passed op value) column
  passed_next op passed equal stood level =
      let pass = others_hold op bit in
      ap (λ l. passed_rows pass bit l equal bits) stood ∙ ap (λ l. passed_rows pass bit (rows_where (is_passed op value) before) l bits) level
      ∙ sym (passed_further (less_holds op) (greater_holds op) now later bit next before.known.prefixes bits further.rows) ∙ ap (rows_where (is_passed op value)) (sym further.is)

-- the digit of the number's code in the plane that was read last
pub last_digit : (before column : KnownColumn) (bits : List Bool) (value : ℤ) (own : ℕ) (bit : Bool) → own ≡ code before.ends (cell_with value before.ends) → ReadFurther before bits column →
    bit ≡ digit_at (planes column.ends - column.known.read) own → bit ≡ bit_at before.ends before.known.read (cell_with value before.ends)
last_digit before column bits value own bit is further e =
    e ∙ ap (digit_at (planes column.ends - column.known.read)) is ∙ ap (λ (k : KnownColumn). digit_at (planes k.ends - k.known.read) (code before.ends (cell_with value before.ends))) further.is

-- ---- the range of the number's own prefix

pub level_shared : (column : KnownColumn) (test : ℤ → Bool) (value : ℤ) (equal : List Bool) (row : ℕ) (truth : Truth) → equal ≡ rows_where (is_level value) column → position (λ b. b) equal ≡ Some row →
    truth_over (numbers_at column row) test ≡ truth → IsTruthAt column test equal truth
level_shared column test value equal row truth is first told = λ r below on.
    let found = position-Some (λ b. b) equal row false first in
    let count = length_where (is_level value) column equal is in
    let m = prefix_of column.ends column.known.read (cell_with value column.ends) in
    let here : get_or column.known.prefixes r 0 ≡ m = eqb-true (get_or column.known.prefixes r 0) m (sym (row_where (is_level value) column equal r is below) ∙ on) in
    let there : get_or column.known.prefixes row 0 ≡ m = eqb-true (get_or column.known.prefixes row 0) m (sym (row_where (is_level value) column equal row is (omega arith)) ∙ found.1) in
    ap (λ p. truth_over (range_of column.ends column.known.read p).numbers test) (here ∙ sym there) ∙ told

-- where no row is first, none has the prefix
pub level_none : (column : KnownColumn) (test : ℤ → Bool) (value : ℤ) (equal : List Bool) (truth : Truth) → equal ≡ rows_where (is_level value) column → position (λ b. b) equal ≡ None → IsTruthAt column test equal truth
level_none column test value equal truth is none = λ r below on.
    let count = length_where (is_level value) column equal is in
    let past : length equal ≤ position_or_len (λ b. b) equal = passes (position_or_len (λ b. b) equal) (length equal) none in
    absurd (false≢true (sym (fails_before_first (λ b. b) equal r false (omega (arith, past, below, count))) ∙ on))
  where
    passes : (n m : ℕ) → cond (nat_lt n m) (Some n) None ≡ None → m ≤ n
    passes n m e = grind (arith, nat_tests)

-- ---- nothing is read

pub no_prefix : (ends : Ends) (p : ℕ) → IsLegal ends 0 p → p ≡ 0
no_prefix ends p legal =
    let k = 2 ^ (planes ends - 0) in
    let most : p ≤ prefix_of ends 0 (Some (spread ends)) = le-div p (first_code ends + spread ends) k (pow_pos (planes ends - 0)) (legal_code ends 0 p legal) in
    omega (arith, most, none_known ends (spread ends) (spread_small ends))

same_all : (test : ℕ → Bool) (b : Bool) (ps : List ℕ) → test 0 ≡ b → ((r : ℕ) → r < length ps → get_or ps r 0 ≡ 0) → replicate (length ps) b ≡ map test ps
same_all test b [] e each = refl
same_all test b (p ∷ ps) e each = ap (λ x. x ∷ replicate (length ps) b) (sym e ∙ ap test (sym (each 0 (omega arith)))) ∙ ap (λ l. test p ∷ l) (same_all test b ps e (λ r h. each (suc r) (omega arith)))

pub starts_where : (test : Ends → ℕ → ℕ → Bool) (b : Bool) (column : KnownColumn) → column.known.read ≡ 0 → IsKnownColumn column → test column.ends 0 0 ≡ b → replicate (rows_of_column column) b ≡ rows_where test column
starts_where test b column none known e =
    same_all (test column.ends column.known.read) b column.known.prefixes (ap (λ n. test column.ends n 0) none ∙ e)
    (λ r below. no_prefix column.ends (get_or column.known.prefixes r 0) (subst (λ n. IsLegal column.ends n (get_or column.known.prefixes r 0)) none (known.legal r 0 below)))

-- the number's own prefix is that of all
pub no_value_prefix : (ends : Ends) (value : ℤ) → IsBetweenEnds ends value → prefix_of ends 0 (cell_with value ends) ≡ 0
no_value_prefix ends value between =
    let small = spread_small ends in
    let above = between.above in
    let below = between.below in
    let within : nat_abs (value -ℤ ends.base) ≤ spread ends = omega (arith, ints) in
    none_known ends (nat_abs (value -ℤ ends.base)) (omega arith)

-- none has passed
pub none_beside : (l g : Bool) (m : ℕ) → m ≡ 0 → beside l g m 0 ≡ false
none_beside l g m e = subst (λ k. beside l g k 0 ≡ false) (sym e) (neither l g)
  where
    neither : (l g : Bool) → beside l g 0 0 ≡ false
    neither true true = refl
    neither true false = refl
    neither false true = refl
    neither false false = refl

-- ---- the sides of a row

pub has_row : (column : KnownColumn) (op : Comparison) (value : ℤ) (s : Sides) (row : ℕ) → HasSides column op value s → row < rows_of_column column → HasRow row s
has_row column op value sides.AllLess row has below = tt
has_row column op value (sides.Parted parted) row has below =
    let passed = length_where (is_passed op value) column parted.passed has.passed in
    let equal = length_where (is_level value) column parted.equal has.equal in
    (omega arith, omega arith)
has_row column op value sides.AllGreater row has below = tt

pub told_sides : (column : KnownColumn) (op : Comparison) (value : ℤ) (s : Sides) (row : ℕ) (at_equal : Truth) → HasSides column op value s → IsKnownColumn column → row < rows_of_column column → IsAtEqual s at_equal →
    IsTrue (may_be_number (range_at column row).null) → IsTold at_equal (truth_over (numbers_at column row) (λ x. compares op x value)) (passed_at op s row) (equal_at s row)
told_sides column op value sides.AllLess row at_equal has known below is some =
    told_all_less column.ends column.known.read (get_or column.known.prefixes row 0) op value at_equal (known.legal row 0 below) has
told_sides column op value (sides.Parted parted) row at_equal has known below is some =
    let p = get_or column.known.prefixes row 0 in
    let m = prefix_of column.ends column.known.read (cell_with value column.ends) in
    let truth = truth_over (numbers_at column row) (λ x. compares op x value) in
    let passed = row_where (is_passed op value) column parted.passed row has.passed below in
    let equal = row_where (is_level value) column parted.equal row has.equal below in
    subst (λ b. IsTold at_equal truth b (get_or parted.equal row false)) (sym passed)
    (subst (λ b. IsTold at_equal truth (beside (less_holds op) (greater_holds op) m p) b) (sym equal)
    (told_parted column.ends column.known.read p m op value at_equal (known.legal row 0 below) some has.between.above refl
    (λ e. has.at_equal row below (equal ∙ e) ∙ sym is)))
told_sides column op value sides.AllGreater row at_equal has known below is some =
    told_all_greater column.ends column.known.read (get_or column.known.prefixes row 0) op value at_equal (known.legal row 0 below) has

-- ---- the truths of a row

pub only_numbers : (n x y : Bool) → (n ≡ true → x ≡ y) → (n && x) ≡ (n && y)
only_numbers true x y h = h refl
only_numbers false x y h = refl

pub not_sure : (b : Bool) → not (not b) ≡ b
not_sure true = refl
not_sure false = refl

-- where the column has no null, the row has a number
pub never_null : (column : KnownColumn) (row : ℕ) → column.ends.nullable ≡ false → (may_be_number (missing_at column row) ≡ true) × (may_be_null (missing_at column row) ≡ false)
never_null column row plain =
    let p = get_or column.known.prefixes row 0 in
    let read = column.known.read in
    (ap (λ b. may_be_number (cond (b && (p == 0)) (cond (read == 0) Possibly Always) Never)) plain, ap (λ b. may_be_null (cond (b && (p == 0)) (cond (read == 0) Possibly Always) Never)) plain)

-- where the row may have a number, its bits tell whether the comparison may hold and may fail
pub row_told : (column : KnownColumn) (op : Comparison) (value : ℤ) (s : Sides) (block r : ℕ) (own : BlockSides) → HasSides column op value s → IsKnownColumn column → r < block_rows (rows_of_column column) block →
    AreBlockSides op s block own → IsTrue (may_be_number (range_at column (512 * block + r)).null) →
    IsTold own.at_equal (truth_over (numbers_at column (512 * block + r)) (λ x. compares op x value)) (bit_in r own.passed) (bit_in r own.equal)
row_told column op value s block r own has known few on some =
    let row = 512 * block + r in
    let truth = truth_over (numbers_at column row) (λ x. compares op x value) in
    let inside = has_row column op value s row has (omega arith) in
    let passed = on.passed r (omega arith) inside in
    let equal = on.equal r (omega arith) inside in
    subst (λ b. IsTold own.at_equal truth b (bit_in r own.equal)) (sym passed)
    (subst (λ b. IsTold own.at_equal truth (passed_at op s row) b) (sym equal) (told_sides column op value s row own.at_equal has known (omega arith) on.at_equal some))

-- ---- comparisons that hold at best

-- where no other numbers compare so, no row passed
passed_none : (column : KnownColumn) (op : Comparison) (value : ℤ) (s : Sides) (row : ℕ) → HasSides column op value s → row < rows_of_column column → less_holds op ≡ false → greater_holds op ≡ false → passed_at op s row ≡ false
passed_none column op value sides.AllLess row has below less greater = less
passed_none column op value (sides.Parted parted) row has below less greater =
    let p = get_or column.known.prefixes row 0 in
    let m = prefix_of column.ends column.known.read (cell_with value column.ends) in
    row_where (is_passed op value) column parted.passed row has.passed below
    ∙ ap (λ b. (b && nat_lt p m) || (greater_holds op && nat_lt m p)) less ∙ ap (λ b. b && nat_lt m p) greater
passed_none column op value sides.AllGreater row has below less greater = greater

-- a test of a number of which nothing is known where a bit is 1, and which fails where it is 0
told_at_best : (null : Nullity) (t : Truth) (equal : Bool) → may_be_null null ≡ false → IsTold Unknown t false equal → truths_from null t ≡ at_best equal
told_at_best Never False false never told = refl
told_at_best Never False true never told = absurd (false≢true (sym told.hold))
told_at_best Never Unknown false never told = absurd (false≢true told.hold)
told_at_best Never Unknown true never told = refl
told_at_best Never True false never told = absurd (false≢true told.hold)
told_at_best Never True true never told = absurd (false≢true (sym told.fail))
told_at_best Possibly t equal never told = absurd (false≢true (sym never))
told_at_best Always t equal never told = absurd (false≢true (sym never))

pub side_at_best : (column : KnownColumn) (op : Comparison) (value : ℤ) (s : Sides) (row : ℕ) → HasSides column op value s → IsKnownColumn column → row < rows_of_column column → IsAtEqual s Unknown →
    less_holds op ≡ false → greater_holds op ≡ false → column.ends.nullable ≡ false → truths_over (range_at column row) (λ x. compares op x value) ≡ at_best (equal_at s row)
side_at_best column op value s row has known below is less greater plain =
    let never = never_null column row plain in
    let truth = truth_over (numbers_at column row) (λ x. compares op x value) in
    told_at_best (missing_at column row) truth (equal_at s row) never.1
    (subst (λ b. IsTold Unknown truth b (equal_at s row)) (passed_none column op value s row has below less greater) (told_sides column op value s row Unknown has known below is never.0))

-- past the column's ends no row has the number's own prefix
pub beyond_ends : (s : Sides) (row : ℕ) → (s ≡ sides.AllLess) ⊎ (s ≡ sides.AllGreater) → (equal_at s row ≡ false) × IsAtEqual s Unknown
beyond_ends s row (inl is) = subst (λ (s : Sides). (equal_at s row ≡ false) × IsAtEqual s Unknown) (sym is) (refl, tt)
beyond_ends s row (inr is) = subst (λ (s : Sides). (equal_at s row ≡ false) × IsAtEqual s Unknown) (sym is) (refl, tt)
