-- An end of an expression by the ends of its parts, and of a column by the digits that were read.
use Rattle.std.proofs.Common.{◌≡◌, ℕ, zero, suc, ◌+◌, ◌-◌, ◌*◌, ◌%◌, ◌^◌, ◌<◌, ℤ, pos, negsuc, ◌+ℤ◌, ◌-ℤ◌, ◌*ℤ◌, ◌≤ℤ◌, int_le, Bool, true, false, ◌&&◌, ◌||◌, cond, length, refl, ap, ◌∙◌, arith}
use Rattle.std.specs.Int.{int_min, int_max}
use Rattle.std.proofs.Math.IntN.{*ℤ-negsuc}
use Rattle.std.proofs.Math.Nat.{mod-lt}
use Rattle.std.proofs.lemmas.Int.{ints, clamps}
use Rattle.std.proofs.lemmas.Nat.{pow_pos}
use Rattle.interval_calc.specs.Intervals.{Interval, difference_of, product_of, sum_of}
use Rattle.interval_calc.proofs.LeastSpans.{times_pos}
use Rattle.daq_table.specs.Tables.{ends_at, planes, spread}
use Rattle.aggregates.specs.declared.ends.End.{End}
use Rattle.aggregates.specs.declared.ends.End.TheVariants.{Low, High}
use Rattle.aggregates.specs.ExtremeRows.{number_at}
use Rattle.aggregates.specs.Selections.{end_of}
use Rattle.aggregates.proofs.NumberRows.{IsNumber, number_row}
use Rattle.known_column.specs.Columns.{is_at_top}
use Rattle.known_column.specs.KnownTables.{IsKnownTable, KnownTable, column_at}
use Rattle.query_model.specs.Knowledge.{known_at, prefix_at, ranges_of}
use Rattle.query_model.specs.Queries.{Term, Column, Mul}
use Rattle.query_model.specs.Truths.{span_of}
use Rattle.query_model.specs.Validity.{declared_ranges}
use Rattle.query_model.proofs.Queries.{ranges_ordered}
use Rattle.query_model.proofs.Spans.{IsSmaller, span_inside, declared_outside}
use Rattle.product_sums.specs.ColumnEnds.{numbers_alike, weight_of_all, weight_of_digits, weight_of_top}
use Rattle.product_sums.specs.Products.{HasValue, end_beside, is_never_negative, is_never_positive, keeps_sign, other_end, term_end}
use Rattle.product_sums.proofs.Multiplying.{both_true}

-- ---- sums, differences and products

pub end_of_sum : (e : End) (i j : Interval) → end_of e (sum_of i j) ≡ end_of e i +ℤ end_of e j
end_of_sum Low i j = refl
end_of_sum High i j = refl

pub end_of_difference : (e : End) (i j : Interval) → end_of e (difference_of i j) ≡ end_of e i -ℤ end_of (other_end e) j
end_of_difference Low i j = refl
end_of_difference High i j = refl

swapped : (a b : ℤ) → a *ℤ b ≡ b *ℤ a
swapped a b = omega (arith, ints)

-- no number of the interval is below 0, or none is above
abbrev pub IsSigned : Bool → Interval → Type 0
IsSigned true i = pos 0 ≤ℤ i.low
IsSigned false i = i.high ≤ℤ pos 0

-- a number times others that ascend ascends or descends by its sign
abbrev Ascend : Bool → ℤ → ℤ → Type 0
Ascend true y z = y ≤ℤ z
Ascend false y z = z ≤ℤ y

times_down : (y z : ℤ) (n : ℕ) → y ≤ℤ z → (z *ℤ negsuc n) ≤ℤ (y *ℤ negsuc n)
times_down y z n h = omega (arith, ints, times_pos y z (suc n) h, *ℤ-negsuc y n, *ℤ-negsuc z n)

times_signed : (up : Bool) (x y z : ℤ) → Ascend up (pos 0) x → y ≤ℤ z → Ascend up (y *ℤ x) (z *ℤ x)
times_signed true (pos n) y z sign h = times_pos y z n h
times_signed true (negsuc n) y z sign h = absurd (omega (arith, ints, sign))
times_signed false (pos zero) y z sign h = omega (arith, ints)
times_signed false (pos (suc n)) y z sign h = absurd (omega (arith, ints, sign))
times_signed false (negsuc n) y z sign h = times_down y z n h

corners : (p q : Bool) (i j : Interval) → IsSigned p i → IsSigned q j → i.low ≤ℤ i.high → j.low ≤ℤ j.high →
    Ascend q (i.low *ℤ j.low) (i.high *ℤ j.low) × Ascend q (i.low *ℤ j.high) (i.high *ℤ j.high) × Ascend p (i.low *ℤ j.low) (i.low *ℤ j.high) × Ascend p (i.high *ℤ j.low) (i.high *ℤ j.high)
corners p q i j sign_i sign_j o r =
    let s = ends p i sign_i o in
    let t = ends q j sign_j r in (
      times_signed q j.low i.low i.high t.0 o,
      times_signed q j.high i.low i.high t.1 o,
      rw (swapped i.low j.low, swapped i.low j.high) (times_signed p i.low j.low j.high s.0 r),
      rw (swapped i.high j.low, swapped i.high j.high) (times_signed p i.high j.low j.high s.1 r),
    )
  where
    ends : (b : Bool) (k : Interval) → IsSigned b k → k.low ≤ℤ k.high → Ascend b (pos 0) k.low × Ascend b (pos 0) k.high
    ends true k sign h = (sign, omega (arith, ints, sign))
    ends false k sign h = (omega (arith, ints, sign), sign)

least_1 : (a b c d : ℤ) → a ≤ℤ b → a ≤ℤ c → c ≤ℤ d → int_min (int_min a b) (int_min c d) ≡ a
least_1 a b c d h k l = omega (arith, ints, clamps)

least_2 : (a b c d : ℤ) → b ≤ℤ a → b ≤ℤ d → d ≤ℤ c → int_min (int_min a b) (int_min c d) ≡ b
least_2 a b c d h k l = omega (arith, ints, clamps)

least_3 : (a b c d : ℤ) → c ≤ℤ d → c ≤ℤ a → a ≤ℤ b → int_min (int_min a b) (int_min c d) ≡ c
least_3 a b c d h k l = omega (arith, ints, clamps)

least_4 : (a b c d : ℤ) → d ≤ℤ c → d ≤ℤ b → b ≤ℤ a → int_min (int_min a b) (int_min c d) ≡ d
least_4 a b c d h k l = omega (arith, ints, clamps)

greatest_1 : (a b c d : ℤ) → b ≤ℤ a → c ≤ℤ a → d ≤ℤ c → int_max (int_max a b) (int_max c d) ≡ a
greatest_1 a b c d h k l = omega (arith, ints, clamps)

greatest_2 : (a b c d : ℤ) → a ≤ℤ b → d ≤ℤ b → c ≤ℤ d → int_max (int_max a b) (int_max c d) ≡ b
greatest_2 a b c d h k l = omega (arith, ints, clamps)

greatest_3 : (a b c d : ℤ) → d ≤ℤ c → a ≤ℤ c → b ≤ℤ a → int_max (int_max a b) (int_max c d) ≡ c
greatest_3 a b c d h k l = omega (arith, ints, clamps)

greatest_4 : (a b c d : ℤ) → c ≤ℤ d → b ≤ℤ d → a ≤ℤ b → int_max (int_max a b) (int_max c d) ≡ d
greatest_4 a b c d h k l = omega (arith, ints, clamps)

-- of parts that keep their signs the product has the products of ends: of each the same end where the other is not below 0
pub end_of_product : (e : End) (p q : Bool) (i j : Interval) → IsSigned p i → IsSigned q j → i.low ≤ℤ i.high → j.low ≤ℤ j.high → end_of e (product_of i j) ≡ end_of (end_beside q e) i *ℤ end_of (end_beside p e) j
end_of_product e p q i j sign_i sign_j o r = by_signs e p q (corners p q i j sign_i sign_j o r)
  where
    by_signs : (e : End) (p q : Bool) →
        Ascend q (i.low *ℤ j.low) (i.high *ℤ j.low) × Ascend q (i.low *ℤ j.high) (i.high *ℤ j.high) × Ascend p (i.low *ℤ j.low) (i.low *ℤ j.high) × Ascend p (i.high *ℤ j.low) (i.high *ℤ j.high) →
        end_of e (product_of i j) ≡ end_of (end_beside q e) i *ℤ end_of (end_beside p e) j
    by_signs Low true true c = least_1 _ _ _ _ c.2 c.0 c.3
    by_signs High true true c = greatest_4 _ _ _ _ c.3 c.1 c.2
    by_signs Low true false c = least_3 _ _ _ _ c.3 c.0 c.2
    by_signs High true false c = greatest_2 _ _ _ _ c.2 c.1 c.3
    by_signs Low false true c = least_2 _ _ _ _ c.2 c.1 c.3
    by_signs High false true c = greatest_3 _ _ _ _ c.3 c.0 c.2
    by_signs Low false false c = least_4 _ _ _ _ c.3 c.1 c.2
    by_signs High false false c = greatest_1 _ _ _ _ c.2 c.0 c.3

-- ---- expressions at a row

at_least : (x : ℤ) → int_le (pos 0) x ≡ true → pos 0 ≤ℤ x
at_least x h = grind (arith, ints)

at_most : (x : ℤ) → int_le x (pos 0) ≡ true → x ≤ℤ pos 0
at_most x h = grind (arith, ints)

module _ (table : KnownTable) (known : IsKnownTable table) (row : ℕ) (below : row < table.frame.rows) where
  pub smaller : (t : Term) → IsSmaller (span_of t (ranges_of table.frame table.known row)) (span_of t (declared_ranges table.frame))
  smaller t = span_inside t (ranges_of table.frame table.known row) (declared_ranges table.frame) (ranges_ordered table.frame table.known row known.knowledge below) (declared_outside table.frame table.known row)

  -- where it lies at the row it has a low and a high end
  pub ordered : (t : Term) → term_end table Low t row ≤ℤ term_end table High t row
  ordered t = (smaller t).ordered

  pub not_below : (t : Term) → is_never_negative table.frame t ≡ true → pos 0 ≤ℤ (span_of t (ranges_of table.frame table.known row)).low
  not_below t never =
      let declared = at_least (span_of t (declared_ranges table.frame)).low never in
      let inside = (smaller t).inside.low in
      omega (arith, ints)

  pub not_above : (t : Term) → is_never_positive table.frame t ≡ true → (span_of t (ranges_of table.frame table.known row)).high ≤ℤ pos 0
  not_above t never =
      let declared = at_most (span_of t (declared_ranges table.frame)).high never in
      let inside = (smaller t).inside.high in
      omega (arith, ints)

  signed : (t : Term) → keeps_sign table.frame t ≡ true → IsSigned (is_never_negative table.frame t) (span_of t (ranges_of table.frame table.known row))
  signed t keeps = by_sign (is_never_negative table.frame t) refl keeps
    where
      by_sign : (b : Bool) → is_never_negative table.frame t ≡ b → (b || is_never_positive table.frame t) ≡ true → IsSigned b (span_of t (ranges_of table.frame table.known row))
      by_sign true is keeps = not_below t is
      by_sign false is keeps = not_above t keeps

  pub product_end : (e : End) (a b : Term) → (keeps_sign table.frame a && keeps_sign table.frame b) ≡ true →
      term_end table e (Mul a b) row ≡ term_end table (end_beside (is_never_negative table.frame b) e) a row *ℤ term_end table (end_beside (is_never_negative table.frame a) e) b row
  product_end e a b keep =
      let both = both_true _ _ keep in
      end_of_product e (is_never_negative table.frame a) (is_never_negative table.frame b) (span_of a (ranges_of table.frame table.known row)) (span_of b (ranges_of table.frame table.known row)) (signed a both.0) (signed b both.1) (smaller a).ordered
      (smaller b).ordered

  -- ---- a column

  number_there : (c : ℕ) → c < length table.frame.columns → HasValue table (Column c) row →
      IsNumber (ends_at table.frame c) (known_at table.known c).read (prefix_at table.known c row) (number_at (column_at table c) row)
  number_there c there possible = number_row (ends_at table.frame c) (known_at table.known c).read (prefix_at table.known c row) (known.knowledge.read c there) (known.knowledge.legal c row there below) possible

  low_sum : (z : ℤ) (x n k : ℕ) (t : Bool) → x ≡ n * k → z +ℤ pos x ≡ ((pos k *ℤ pos n) +ℤ z) -ℤ cond t (pos 0) (pos 0)
  low_sum z x n k true e = ap (λ m. z +ℤ pos m) e ∙ omega (arith, ints)
  low_sum z x n k false e = ap (λ m. z +ℤ pos m) e ∙ omega (arith, ints)

  high_sum : (z : ℤ) (x n k s : ℕ) (t : Bool) → 0 < k → s < k → x ≡ n * k + cond t s (k - 1) → z +ℤ pos x ≡ ((pos k *ℤ pos n) +ℤ (z +ℤ pos (k - 1))) -ℤ cond t (pos (k - 1 - s)) (pos 0)
  high_sum z x n k s true some small e = ap (λ m. z +ℤ pos m) e ∙ omega (arith, ints)
  high_sum z x n k s false some small e = ap (λ m. z +ℤ pos m) e ∙ omega (arith, ints)

  pub column_end : (e : End) (c : ℕ) → c < length table.frame.columns → HasValue table (Column c) row →
      term_end table e (Column c) row ≡ ((weight_of_digits (column_at table c) *ℤ pos (number_at (column_at table c) row)) +ℤ weight_of_all e (column_at table c))
      -ℤ cond (is_at_top (ends_at table.frame c) (known_at table.known c).read (prefix_at table.known c row)) (weight_of_top e (column_at table c)) (pos 0)
  column_end Low c there possible =
      low_sum (ends_at table.frame c).base _ (number_at (column_at table c) row) (numbers_alike (column_at table c)) (is_at_top (ends_at table.frame c) (known_at table.known c).read (prefix_at table.known c row))
      (number_there c there possible).above
  column_end High c there possible =
      let ends = ends_at table.frame c in
      let d = planes ends - (known_at table.known c).read in
      high_sum ends.base _ (number_at (column_at table c) row) (numbers_alike (column_at table c)) (spread ends % 2 ^ d) (is_at_top ends (known_at table.known c).read (prefix_at table.known c row))
      (pow_pos d) (mod-lt (spread ends) (pow_pos d)) (number_there c there possible).wide
