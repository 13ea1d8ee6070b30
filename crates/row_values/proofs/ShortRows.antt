-- Spans of 64 bits, row by row.
use Rattle.std.proofs.Common.{◌≡◌, ℕ, ◌+◌, ◌*◌, ◌-◌, ◌^◌, ◌<◌, ◌≤◌, min, pos, ◌+ℤ◌, true, List, length, slice_get, get_or, Some, refl, ap, sym, subst, ◌∙◌, arith}
use Rattle.std.proofs.lemmas.Int.{ints}
use Rattle.std.proofs.lemmas.Option.{slice_get-get_or}
use Rattle.daq_table.specs.Tables.{planes, spread}
use Rattle.interval_calc.specs.Intervals.{Interval}
use Rattle.interval_calc.proofs.Conversions.{same_interval}
use Rattle.known_column.specs.Columns.{KnownColumn, count_in_block, number_of}
use Rattle.known_column.specs.KnownTables.{KnownTable}
use Rattle.query_model.specs.Knowledge.{is_legal, ranges_of}
use Rattle.query_model.specs.Queries.{Term}
use Rattle.query_model.specs.Truths.{Ranges, IsInside, may_be_number, null_of, one_null, span_of}
use Rattle.query_model.specs.Validity.{declared_ranges}
use Rattle.query_model.proofs.Spans.{IsSmaller, difference_smaller, product_smaller, sum_smaller}
use Rattle.row_values.specs.declared.short.ShortInterval.{ShortInterval}
use Rattle.row_values.specs.declared.short_arithmetic.Operation.{Operation}
use Rattle.row_values.specs.declared.short_arithmetic.Operation.TheVariants.{Sum, Difference, Product}
use Rattle.row_values.specs.ShortSpans.{AreResults, AreShortSpans, FitEach, FitsShort, IsShort, IsShortRange, interval_of, result_of, term_with}
use Rattle.row_values.proofs.NullRows.{numbers_both}
use Rattle.row_values.proofs.NumberRanges.{number_range, unread_digits}
use Rattle.row_values.proofs.ShortNumbers.{short_inside}

smaller : (operation : Operation) (i i' j j' : Interval) → IsSmaller i i' → IsSmaller j j' → IsSmaller (result_of operation i j) (result_of operation i' j')
smaller Sum i i' j j' p q = sum_smaller i i' j j' p q
smaller Difference i i' j j' p q = difference_smaller i i' j j' p q
smaller Product i i' j j' p q = product_smaller i i' j j' p q

span_with : (operation : Operation) (a b : Term) (ranges : Ranges) → span_of (term_with operation a b) ranges ≡ result_of operation (span_of a ranges) (span_of b ranges)
span_with Sum a b ranges = refl
span_with Difference a b ranges = refl
span_with Product a b ranges = refl

null_with_both : (operation : Operation) (a b : Term) (ranges : Ranges) → null_of (term_with operation a b) ranges ≡ one_null (null_of a ranges) (null_of b ranges)
null_with_both Sum a b ranges = refl
null_with_both Difference a b ranges = refl
null_with_both Product a b ranges = refl

both_fit : (operation : Operation) (a b : Term) (ranges : Ranges) → FitsShort (term_with operation a b) ranges → IsShort (result_of operation (span_of a ranges) (span_of b ranges))
both_fit Sum a b ranges p = p.2
both_fit Difference a b ranges p = p.2
both_fit Product a b ranges p = p.2

module _ (operation : Operation) (a b : Term) (table : KnownTable) (block count : ℕ) (left right : List ShortInterval) (rows : count ≡ count_in_block block table.frame.rows)
    (first : AreShortSpans a table block left) (second : AreShortSpans b table block right) where
  pub fit_each : FitsShort (term_with operation a b) (declared_ranges table.frame) → FitEach operation count left right
  fit_each whole r x y below at at' =
      let fits = both_fit operation a b (declared_ranges table.frame) whole in
      let within : r < count_in_block block table.frame.rows = omega (arith, rows, below) in
      let p : IsSmaller (interval_of x) (span_of a (declared_ranges table.frame)) = record { ordered = x.ordered; inside = (first r x within at).inside } in
      let q : IsSmaller (interval_of y) (span_of b (declared_ranges table.frame)) = record { ordered = y.ordered; inside = (second r y within at').inside } in
      short_inside _ _ (smaller operation _ _ _ _ p q) fits

  pub joined_spans : (new : List ShortInterval) → length left ≡ 64 → length right ≡ 64 → AreResults operation count left right new → AreShortSpans (term_with operation a b) table block new
  joined_spans new long long' results r z within at =
      let declared = declared_ranges table.frame in
      let ranges = ranges_of table.frame table.known (64 * block + r) in
      let x = get_or left r z in
      let y = get_or right r z in
      let at_left : slice_get left r ≡ Some x = slice_get-get_or left r z (omega (arith, within, long)) in
      let at_right : slice_get right r ≡ Some y = slice_get-get_or right r z (omega (arith, within, long')) in
      let is : interval_of z ≡ result_of operation (interval_of x) (interval_of y) = results r x y z (omega (arith, rows, within)) at_left at_right at in
      let here = first r x within at_left in
      let there = second r y within at_right in
      let p : IsSmaller (interval_of x) (span_of a declared) = record { ordered = x.ordered; inside = here.inside } in
      let q : IsSmaller (interval_of y) (span_of b declared) = record { ordered = y.ordered; inside = there.inside } in
      record {
        inside = subst (λ i. IsInside i (span_of (term_with operation a b) declared)) (sym is) (subst (IsInside (result_of operation (interval_of x) (interval_of y))) (sym (span_with operation a b declared)) (smaller operation _ _ _ _ p q).inside);
        exact = λ some.
            let both = numbers_both (null_of a ranges) (null_of b ranges) (sym (ap may_be_number (null_with_both operation a b ranges)) ∙ some) in
            is ∙ ap (λ i. result_of operation i (interval_of y)) (here.exact both.0) ∙ ap (result_of operation (span_of a ranges)) (there.exact both.1) ∙ sym (span_with operation a b ranges);
      }

-- the range of a column at a row
pub range_there : (column : KnownColumn) (row n u : ℕ) (span : ShortInterval) → column.known.read ≤ planes column.ends → is_legal column.ends column.known.read (get_or column.known.prefixes row 0) ≡ true →
    n ≡ number_of column.ends column.known.read (get_or column.known.prefixes row 0) → u ≡ unread_digits column.ends column.known.read →
    span.lo ≡ column.ends.base +ℤ pos (n * 2 ^ u) → span.hi ≡ column.ends.base +ℤ pos (min (n * 2 ^ u + (2 ^ u - 1)) (spread column.ends)) → IsShortRange column row span
range_there column row n u span h legal n_is u_is lo hi =
    let ends = column.ends in
    let read = column.known.read in
    let p = get_or column.known.prefixes row 0 in
    let ordered = ends.ordered in
    let number = number_of ends read p in
    let unread = unread_digits ends read in
    record {
      inside = record { low = omega (arith, ints, lo); high = omega (arith, ints, hi, ordered) };
      exact = λ some.
          let is = number_range ends read p h legal some in
          same_interval _ _
          (lo ∙ ap (λ k. ends.base +ℤ pos (k * 2 ^ u)) n_is ∙ ap (λ k. ends.base +ℤ pos (number * 2 ^ k)) u_is ∙ ap (λ k. ends.base +ℤ pos k) (sym is.first))
          (hi ∙ ap (λ k. ends.base +ℤ pos (min (k * 2 ^ u + (2 ^ u - 1)) (spread ends))) n_is ∙ ap (λ k. ends.base +ℤ pos (min (number * 2 ^ k + (2 ^ k - 1)) (spread ends))) u_is ∙ ap (λ k. ends.base +ℤ pos k) (sym is.last));
    }
