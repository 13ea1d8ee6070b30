-- Sums of products that are kept from one plane to the next: what a plane of the column adds to them, over the rows of a whole mask.
use Rattle.std.proofs.Common.{◌≡◌, ℕ, suc, ◌+◌, ◌-◌, ◌*◌, ◌/◌, ◌%◌, ◌^◌, ◌<◌, ◌≤◌, ◌==◌, max, inl, inr, ℤ, pos, ◌+ℤ◌, ◌-ℤ◌, ◌*ℤ◌, Bool, false, ◌&&◌, cond, List, length, map, IsTrue, ap, sym, ◌∙◌, arith}
use Rattle.std.specs.Simd.Lanes.{zip2}
use Rattle.std.proofs.Math.Nat.{div-one, div-eq_of_lt, pow-le-pow_right}
use Rattle.std.proofs.lemmas.Int.{ints}
use Rattle.std.proofs.lemmas.List.{get_or-map, length-map}
use Rattle.daq_table.specs.Tables.{ends_at}
use Rattle.aggregates.specs.declared.ends.End.{End}
use Rattle.aggregates.specs.ExtremeRows.{number_at}
use Rattle.aggregates.specs.Selections.{has_row}
use Rattle.aggregates.proofs.BlockWords.{place, row_within}
use Rattle.aggregates.proofs.EarlyNumbers.{AreDigits, digit_row}
use Rattle.aggregates.proofs.NumberRows.{first_plane, halved}
use Rattle.known_column.specs.Columns.{digit_of, is_at_top}
use Rattle.known_column.specs.KnownTables.{IsKnownTable, KnownTable, column_at}
use Rattle.query_model.specs.Knowledge.{known_at, prefix_at}
use Rattle.query_model.specs.Queries.{Column, Term}
use Rattle.product_sums.specs.ColumnEnds.{weight_of_all, weight_of_digits, weight_of_top}
use Rattle.product_sums.specs.Fetched.{ones_of}
use Rattle.product_sums.specs.KeptProducts.{first_sum}
use Rattle.product_sums.specs.Products.{HasValue, HasValues, sum_over, term_end}
use Rattle.product_sums.proofs.DigitSums.{further, spread_out, twice}
use Rattle.product_sums.proofs.Multiplying.{among}
use Rattle.product_sums.proofs.RowSums.{over_both, over_difference, over_multiple, over_nothing, over_same, over_sum}
use Rattle.product_sums.proofs.TermEnds.{column_end}

-- fewer rows have values too
pub values_among : (table : KnownTable) (t : Term) (mask bits : List Bool) → length bits ≡ length mask → HasValues table t mask → HasValues table t (zip2 (λ a b. a && b) mask bits)
values_among table t mask bits same values r has = values r (among table 0 mask bits r same has)

module _ (table : KnownTable) (known : IsKnownTable table) (mask : List Bool) (long : length mask ≡ table.frame.rows) (c : ℕ) (there : c < length table.frame.columns) (f : ℕ → ℤ) where
  abbrev read : ℕ
  read = (known_at table.known c).read

  abbrev prefixes : List ℕ
  prefixes = (known_at table.known c).prefixes

  abbrev number : ℕ → ℕ
  number r = number_at (column_at table c) r

  all_rows : length prefixes ≡ table.frame.rows
  all_rows = known.knowledge.rows c there

  row_below : (r : ℕ) → IsTrue (has_row mask r) → r < table.frame.rows
  row_below r has = omega (arith, row_within mask r has, long)

  digits_there : (r : ℕ) → IsTrue (has_row mask r) → AreDigits (ends_at table.frame c) read (prefix_at table.known c r) (number r)
  digits_there r has = digit_row (ends_at table.frame c) read (prefix_at table.known c r) (known.knowledge.read c there) (known.knowledge.legal c r there (row_below r has))

  -- the mask's rows that pass a test of their prefixes
  over_tested : (test : ℕ → Bool) → sum_over (zip2 (λ a b. a && b) mask (map test prefixes)) f ≡ sum_over mask (λ r. cond (test (prefix_at table.known c r)) (f r) (pos 0))
  over_tested test =
      over_both mask (map test prefixes) f (length-map prefixes test ∙ all_rows ∙ sym long)
      ∙ over_same mask (λ r. cond (has_row (map test prefixes) r) (f r) (pos 0)) (λ r. cond (test (prefix_at table.known c r)) (f r) (pos 0))
      (λ r has. ap (λ b. cond b (f r) (pos 0)) (get_or-map test prefixes r 0 false (omega (arith, row_below r has, all_rows))))

  abbrev kept_but : ℕ → ℤ
  kept_but k = first_sum table mask c f k

  -- before the first digit nothing is kept
  pub kept_first : (j : ℕ) → j ≤ first_plane (ends_at table.frame c) read → kept_but (read - j) ≡ pos 0
  kept_first j few = over_nothing mask (λ r. pos (number r / 2 ^ (read - j)) *ℤ f r) (λ r has.
      let more : 2 ^ (read - first_plane (ends_at table.frame c) read) ≤ 2 ^ (read - j) = pow-le-pow_right (omega arith) (omega (arith, few)) in
      let none : number r / 2 ^ (read - j) ≡ 0 = div-eq_of_lt (omega (arith, (digits_there r has).small, more)) in
      ap (λ n. pos n *ℤ f r) none ∙ nothing (f r))
    where
      nothing : (z : ℤ) → pos 0 *ℤ z ≡ pos 0
      nothing z = omega (arith, ints)

  -- what is kept before the first digit is what is kept at the first digit
  pub kept_started : (had from : ℕ) → from ≡ max (first_plane (ends_at table.frame c) read) had → kept_but (read - had) ≡ kept_but (read - from)
  kept_started had from is = elim (place had (first_plane (ends_at table.frame c) read)) [
    | inl h ↦ kept_first had (omega (arith, h)) ∙ sym (kept_first from (omega (arith, h, is)))
    | inr h ↦ (let same : from ≡ had = omega (arith, h, is) in ap (λ n. kept_but (read - n)) (sym same))
  ]

  -- a plane doubles what is kept, and adds the other part over the rows that have its bit
  pub kept_next : (j : ℕ) → first_plane (ends_at table.frame c) read ≤ j → j < read →
      kept_but (read - (j + 1)) ≡ (kept_but (read - j) *ℤ pos 2) +ℤ sum_over (zip2 (λ a b. a && b) mask (map (digit_of read j) prefixes)) f
  kept_next j from below =
      let k = read - (j + 1) in
      let next : suc k ≡ read - j = omega (arith, below) in
      over_same mask (λ r. pos (number r / 2 ^ k) *ℤ f r) (λ r. (pos 2 *ℤ (pos (number r / 2 ^ (read - j)) *ℤ f r)) +ℤ cond (digit_of read j (prefix_at table.known c r)) (f r) (pos 0))
      (λ r has. further (number r / 2 ^ (read - j)) (number r / 2 ^ k) (digit_of read j (prefix_at table.known c r)) (f r)
      (halved (number r) k ∙ ap (λ n. 2 * (number r / 2 ^ n) + cond ((number r / 2 ^ k) % 2 == 1) 1 0) next
      ∙ ap (λ b. 2 * (number r / 2 ^ (read - j)) + cond b 1 0) (sym ((digits_there r has).digits j from below)))
      ∙ ap (λ z. z +ℤ cond (digit_of read j (prefix_at table.known c r)) (f r) (pos 0)) (twice (pos (number r / 2 ^ (read - j)) *ℤ f r)))
      ∙ over_sum mask (λ r. pos 2 *ℤ (pos (number r / 2 ^ (read - j)) *ℤ f r)) (λ r. cond (digit_of read j (prefix_at table.known c r)) (f r) (pos 0))
      ∙ ap (λ z. z +ℤ sum_over mask (λ r. cond (digit_of read j (prefix_at table.known c r)) (f r) (pos 0)))
      (over_multiple mask (pos 2) (λ r. pos (number r / 2 ^ (read - j)) *ℤ f r) ∙ sym (twice (kept_but (read - j))))
      ∙ ap (λ z. (kept_but (read - j) *ℤ pos 2) +ℤ z) (sym (over_tested (digit_of read j)))

  -- all planes gave the numbers that they make
  pub kept_whole : kept_but (read - read) ≡ sum_over mask (λ r. pos (number r) *ℤ f r)
  kept_whole = (let none : read - read ≡ 0 = omega arith in ap kept_but none ∙ over_same mask (λ r. pos (number r / 2 ^ 0) *ℤ f r) (λ r. pos (number r) *ℤ f r) (λ r has. ap (λ n. pos n *ℤ f r) (div-one (number r))))

  -- an end of the product by what is kept: base, the unread digits and the clip at top are found anew
  pub kept_end : (e : End) → ((r : ℕ) → IsTrue (has_row mask r) → HasValue table (Column c) r) →
      sum_over mask (λ r. term_end table e (Column c) r *ℤ f r)
      ≡ ((weight_of_digits (column_at table c) *ℤ kept_but (read - read)) +ℤ (weight_of_all e (column_at table c) *ℤ sum_over mask f))
      -ℤ (weight_of_top e (column_at table c) *ℤ sum_over (zip2 (λ a b. a && b) mask (map (is_at_top (ends_at table.frame c) read) prefixes)) f)
  kept_end e values =
      let column = column_at table c in
      let d = weight_of_digits column in
      let a = weight_of_all e column in
      let t = weight_of_top e column in
      let top : ℕ → Bool = λ r. is_at_top (ends_at table.frame c) read (prefix_at table.known c r) in
      over_same mask (λ r. term_end table e (Column c) r *ℤ f r) (λ r. ((d *ℤ (pos (number r) *ℤ f r)) +ℤ (a *ℤ f r)) -ℤ (t *ℤ cond (top r) (f r) (pos 0)))
      (λ r has. ap (λ z. z *ℤ f r) (column_end table known r (row_below r has) e c there (values r has)) ∙ spread_out d (pos (number r)) a t (f r) (top r))
      ∙ over_difference mask (λ r. (d *ℤ (pos (number r) *ℤ f r)) +ℤ (a *ℤ f r)) (λ r. t *ℤ cond (top r) (f r) (pos 0))
      ∙ ap (λ z. z -ℤ sum_over mask (λ r. t *ℤ cond (top r) (f r) (pos 0))) (over_sum mask (λ r. d *ℤ (pos (number r) *ℤ f r)) (λ r. a *ℤ f r)
      ∙ ap (λ z. z +ℤ sum_over mask (λ r. a *ℤ f r)) (over_multiple mask d (λ r. pos (number r) *ℤ f r) ∙ ap (λ z. d *ℤ z) (sym kept_whole))
      ∙ ap (λ z. (d *ℤ kept_but (read - read)) +ℤ z) (over_multiple mask a f))
      ∙ ap (λ z. ((d *ℤ kept_but (read - read)) +ℤ (a *ℤ sum_over mask f)) -ℤ z)
      (over_multiple mask t (λ r. cond (top r) (f r) (pos 0)) ∙ ap (λ z. t *ℤ z) (sym (over_tested (is_at_top (ends_at table.frame c) read))))

pub length-ones : (table : KnownTable) → IsKnownTable table → (c : ℕ) → c < length table.frame.columns → (j : ℕ) → length (ones_of (column_at table c) j) ≡ table.frame.rows
length-ones table known c there j = length-map (known_at table.known c).prefixes (digit_of (known_at table.known c).read j) ∙ known.knowledge.rows c there
