-- The numbers that a column's digits make, times another number of each row, added up digit by digit over rows of a block.
use Rattle.std.proofs.Common.{◌≡◌, ℕ, suc, ◌+◌, ◌-◌, ◌*◌, ◌/◌, ◌%◌, ◌^◌, ◌<◌, ◌≤◌, ◌==◌, min, ℤ, pos, ◌+ℤ◌, ◌-ℤ◌, ◌*ℤ◌, Bool, true, false, ◌&&◌, cond, List, [], length, map, take, drop, get_or, IsTrue, ap, sym, ◌∙◌, arith, length-drop}
use Rattle.std.specs.Simd.Lanes.{zip2}
use Rattle.std.proofs.Math.Nat.{div-eq_of_lt, div-one}
use Rattle.std.proofs.Math.Nat.{pow-le-pow_right}
use Rattle.std.proofs.Math.IntN.{*ℤ-zero, zero-*ℤ}
use Rattle.std.proofs.lemmas.Int.{ints}
use Rattle.std.proofs.lemmas.List.{get_or-drop, get_or-map, get_or-take, length-map, length-take}
use Rattle.daq_table.specs.Tables.{ends_at}
use Rattle.aggregates.specs.declared.ends.End.{End}
use Rattle.aggregates.specs.ExtremeRows.{number_at}
use Rattle.aggregates.specs.Selections.{has_row}
use Rattle.aggregates.proofs.BlockWords.{row_within}
use Rattle.aggregates.proofs.EarlyNumbers.{AreDigits, digit_row}
use Rattle.aggregates.proofs.NumberRows.{first_plane, halved}
use Rattle.known_column.specs.Columns.{digit_of, is_at_top}
use Rattle.known_column.specs.KnownTables.{KnownTable, column_at}
use Rattle.query_model.specs.Knowledge.{known_at, prefix_at}
use Rattle.query_model.specs.Queries.{Column}
use Rattle.product_sums.specs.ColumnEnds.{weight_of_all, weight_of_digits, weight_of_top}
use Rattle.product_sums.specs.Products.{CanMultiply, HasValue, sum_over, term_end}
use Rattle.product_sums.proofs.Distributing.{difference_times, product_times, sum_times}
use Rattle.product_sums.proofs.RowSums.{over_both, over_difference, over_multiple, over_nothing, over_same, over_sum}
use Rattle.product_sums.proofs.TermEnds.{column_end}

-- ---- bits of rows in a block

pub bit_there : (test : ℕ → Bool) (ps : List ℕ) (block i : ℕ) → i < 512 → 512 * block + i < length ps → has_row (take 512 (drop (512 * block) (map test ps))) i ≡ test (get_or ps (512 * block + i) 0)
bit_there test ps block i small below =
    get_or-take 512 (drop (512 * block) (map test ps)) i false small ∙ get_or-drop (512 * block) (map test ps) i false ∙ get_or-map test ps (512 * block + i) 0 false below

pub long_block : {A : Type 0} (xs : List A) (block n : ℕ) → length xs ≡ n → length (take 512 (drop (512 * block) xs)) ≡ min 512 (n - 512 * block)
long_block xs block n e = length-take 512 (drop (512 * block) xs) ∙ ap (min 512) (length-drop (512 * block) xs ∙ ap (λ k. k - 512 * block) e)

-- ---- one digit more, and an end as a sum, times a number

pub further : (n m : ℕ) (t : Bool) (p : ℤ) → m ≡ 2 * n + cond t 1 0 → pos m *ℤ p ≡ ((pos n *ℤ p) *ℤ pos 2) +ℤ cond t p (pos 0)
further n m true p e = ap (λ k. pos k *ℤ p) e ∙ omega (arith, ints)
further n m false p e = ap (λ k. pos k *ℤ p) e ∙ omega (arith, ints)

pub twice : (z : ℤ) → z *ℤ pos 2 ≡ pos 2 *ℤ z
twice z = omega (arith, ints)

taken : (d n a t p : ℤ) → (((d *ℤ n) +ℤ a) -ℤ t) *ℤ p ≡ ((d *ℤ (n *ℤ p)) +ℤ (a *ℤ p)) -ℤ (t *ℤ p)
taken d n a t p =
    difference_times ((d *ℤ n) +ℤ a) t p ∙ ap (λ z. z -ℤ (t *ℤ p)) (sum_times (d *ℤ n) a p ∙ ap (λ z. z +ℤ (a *ℤ p)) (product_times d n p))

kept : (d n a t p : ℤ) → (((d *ℤ n) +ℤ a) -ℤ pos 0) *ℤ p ≡ ((d *ℤ (n *ℤ p)) +ℤ (a *ℤ p)) -ℤ (t *ℤ pos 0)
kept d n a t p = taken d n a (pos 0) p ∙ ap (λ z. ((d *ℤ (n *ℤ p)) +ℤ (a *ℤ p)) -ℤ z) (zero-*ℤ p ∙ sym (*ℤ-zero t))

pub spread_out : (d n a t p : ℤ) (b : Bool) → (((d *ℤ n) +ℤ a) -ℤ cond b t (pos 0)) *ℤ p ≡ ((d *ℤ (n *ℤ p)) +ℤ (a *ℤ p)) -ℤ (t *ℤ cond b p (pos 0))
spread_out d n a t p true = taken d n a t p
spread_out d n a t p false = kept d n a t p

-- what the digits make but for so many at the end, times a number of each row, added up
abbrev pub first_digits : KnownTable → ℕ → List Bool → (ℕ → ℤ) → ℕ → ℕ → ℤ
first_digits table block rows f c k = sum_over rows (λ i. pos (number_at (column_at table c) (512 * block + i) / 2 ^ k) *ℤ f (512 * block + i))

module _ (table : KnownTable) (block : ℕ) (rows : List Bool) (f : ℕ → ℤ) (can : CanMultiply table block rows []) (c : ℕ) (there : c < length table.frame.columns) where
  abbrev read : ℕ
  read = (known_at table.known c).read

  abbrev prefixes : List ℕ
  prefixes = (known_at table.known c).prefixes

  abbrev number : ℕ → ℕ
  number i = number_at (column_at table c) (512 * block + i)

  abbrev other : ℕ → ℤ
  other i = f (512 * block + i)

  all_rows : length prefixes ≡ table.frame.rows
  all_rows = can.known.knowledge.rows c there

  pub row_below : (i : ℕ) → IsTrue (has_row rows i) → (i < 512) × (512 * block + i < table.frame.rows)
  row_below i has = (let low : i < length rows = row_within rows i has in (omega (arith, low, can.count), omega (arith, low, can.count, can.within)))

  digits_there : (i : ℕ) → IsTrue (has_row rows i) → AreDigits (ends_at table.frame c) read (prefix_at table.known c (512 * block + i)) (number i)
  digits_there i has =
      digit_row (ends_at table.frame c) read (prefix_at table.known c (512 * block + i)) (can.known.knowledge.read c there) (can.known.knowledge.legal c (512 * block + i) there (row_below i has).1)

  -- the rows of a block that pass a test of their prefixes
  pub tested_length : (test : ℕ → Bool) → length (take 512 (drop (512 * block) (map test prefixes))) ≡ length rows
  tested_length test = long_block (map test prefixes) block table.frame.rows (length-map prefixes test ∙ all_rows) ∙ sym can.count

  pub over_tested : (test : ℕ → Bool) → sum_over (zip2 (λ a b. a && b) rows (take 512 (drop (512 * block) (map test prefixes)))) other
      ≡ sum_over rows (λ i. cond (test (prefix_at table.known c (512 * block + i))) (other i) (pos 0))
  over_tested test =
      over_both rows (take 512 (drop (512 * block) (map test prefixes))) other (tested_length test)
      ∙ over_same rows (λ i. cond (has_row (take 512 (drop (512 * block) (map test prefixes))) i) (other i) (pos 0)) (λ i. cond (test (prefix_at table.known c (512 * block + i))) (other i) (pos 0))
      (λ i has. let below = row_below i has in ap (λ b. cond b (other i) (pos 0)) (bit_there test prefixes block i below.0 (omega (arith, below.1, all_rows))))

  -- ---- digit by digit

  abbrev digits_but : ℕ → ℤ
  digits_but k = first_digits table block rows f c k

  pub digits_first : (j : ℕ) → j ≤ first_plane (ends_at table.frame c) read → digits_but (read - j) ≡ pos 0
  digits_first j few = over_nothing rows (λ i. pos (number i / 2 ^ (read - j)) *ℤ other i) (λ i has.
      let more : 2 ^ (read - first_plane (ends_at table.frame c) read) ≤ 2 ^ (read - j) = pow-le-pow_right (omega arith) (omega (arith, few)) in
      let none : number i / 2 ^ (read - j) ≡ 0 = div-eq_of_lt (omega (arith, (digits_there i has).small, more)) in
      ap (λ n. pos n *ℤ other i) none ∙ nothing (other i))
    where
      nothing : (z : ℤ) → pos 0 *ℤ z ≡ pos 0
      nothing z = omega (arith, ints)

  pub digits_next : (j : ℕ) → first_plane (ends_at table.frame c) read ≤ j → j < read →
      digits_but (read - (j + 1)) ≡ (digits_but (read - j) *ℤ pos 2) +ℤ sum_over (zip2 (λ a b. a && b) rows (take 512 (drop (512 * block) (map (digit_of read j) prefixes)))) other
  digits_next j from below =
      let k = read - (j + 1) in
      let next : suc k ≡ read - j = omega (arith, below) in
      over_same rows (λ i. pos (number i / 2 ^ k) *ℤ other i) (λ i. (pos 2 *ℤ (pos (number i / 2 ^ (read - j)) *ℤ other i)) +ℤ cond (digit_of read j (prefix_at table.known c (512 * block + i))) (other i) (pos 0))
      (λ i has. further (number i / 2 ^ (read - j)) (number i / 2 ^ k) (digit_of read j (prefix_at table.known c (512 * block + i))) (other i)
      (halved (number i) k ∙ ap (λ n. 2 * (number i / 2 ^ n) + cond ((number i / 2 ^ k) % 2 == 1) 1 0) next
      ∙ ap (λ b. 2 * (number i / 2 ^ (read - j)) + cond b 1 0) (sym ((digits_there i has).digits j from below)))
      ∙ ap (λ z. z +ℤ cond (digit_of read j (prefix_at table.known c (512 * block + i))) (other i) (pos 0)) (twice (pos (number i / 2 ^ (read - j)) *ℤ other i)))
      ∙ over_sum rows (λ i. pos 2 *ℤ (pos (number i / 2 ^ (read - j)) *ℤ other i)) (λ i. cond (digit_of read j (prefix_at table.known c (512 * block + i))) (other i) (pos 0))
      ∙ ap (λ z. z +ℤ sum_over rows (λ i. cond (digit_of read j (prefix_at table.known c (512 * block + i))) (other i) (pos 0)))
      (over_multiple rows (pos 2) (λ i. pos (number i / 2 ^ (read - j)) *ℤ other i) ∙ sym (twice (digits_but (read - j))))
      ∙ ap (λ z. (digits_but (read - j) *ℤ pos 2) +ℤ z) (sym (over_tested (digit_of read j)))

  pub digits_last : (k : ℕ) → k ≡ 0 → digits_but k ≡ sum_over rows (λ i. pos (number i) *ℤ other i)
  digits_last k none = ap digits_but none ∙ over_same rows (λ i. pos (number i / 2 ^ 0) *ℤ other i) (λ i. pos (number i) *ℤ other i) (λ i has. ap (λ n. pos n *ℤ other i) (div-one (number i)))

  -- ---- an end of the column

  pub column_sum : (e : End) → ((i : ℕ) → IsTrue (has_row rows i) → HasValue table (Column c) (512 * block + i)) →
      sum_over rows (λ i. term_end table e (Column c) (512 * block + i) *ℤ other i)
      ≡ ((weight_of_digits (column_at table c) *ℤ sum_over rows (λ i. pos (number i) *ℤ other i)) +ℤ (weight_of_all e (column_at table c) *ℤ sum_over rows other))
      -ℤ (weight_of_top e (column_at table c) *ℤ sum_over (zip2 (λ a b. a && b) rows (take 512 (drop (512 * block) (map (is_at_top (ends_at table.frame c) read) prefixes)))) other)
  column_sum e values =
      let column = column_at table c in
      let d = weight_of_digits column in
      let a = weight_of_all e column in
      let t = weight_of_top e column in
      let top : ℕ → Bool = λ i. is_at_top (ends_at table.frame c) read (prefix_at table.known c (512 * block + i)) in
      over_same rows (λ i. term_end table e (Column c) (512 * block + i) *ℤ other i) (λ i. ((d *ℤ (pos (number i) *ℤ other i)) +ℤ (a *ℤ other i)) -ℤ (t *ℤ cond (top i) (other i) (pos 0)))
      (λ i has. ap (λ z. z *ℤ other i) (column_end table can.known (512 * block + i) (row_below i has).1 e c there (values i has)) ∙ spread_out d (pos (number i)) a t (other i) (top i))
      ∙ over_difference rows (λ i. (d *ℤ (pos (number i) *ℤ other i)) +ℤ (a *ℤ other i)) (λ i. t *ℤ cond (top i) (other i) (pos 0))
      ∙ ap (λ z. z -ℤ sum_over rows (λ i. t *ℤ cond (top i) (other i) (pos 0))) (over_sum rows (λ i. d *ℤ (pos (number i) *ℤ other i)) (λ i. a *ℤ other i)
      ∙ ap (λ z. z +ℤ sum_over rows (λ i. a *ℤ other i)) (over_multiple rows d (λ i. pos (number i) *ℤ other i))
      ∙ ap (λ z. (d *ℤ sum_over rows (λ i. pos (number i) *ℤ other i)) +ℤ z) (over_multiple rows a other))
      ∙ ap (λ z. ((d *ℤ sum_over rows (λ i. pos (number i) *ℤ other i)) +ℤ (a *ℤ sum_over rows other)) -ℤ z)
      (over_multiple rows t (λ i. cond (top i) (other i) (pos 0)) ∙ ap (λ z. t *ℤ z) (sym (over_tested (is_at_top (ends_at table.frame c) read))))
