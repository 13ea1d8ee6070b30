use Rattle.std.proofs.Common.{◌≡◌, min, ℕ, ◌^◌, ◌==◌, ◌+◌, ◌*◌, ◌%◌, ◌<◌, ◌&&◌, get_or, slice_get, Some, refl, ap, sym, ◌∙◌, subst, arith, not, false, ℤ, to_z, of_z}
use Rattle.std.proofs.lemmas.Option.{get_or_from_slice_get, slice_get-get_or}
use Rattle.std.specs.Int.{bit_not, trailing_zeros, w64}
use Rattle.std.specs.Int.Bits.{bit_and, bit_or}
use Rattle.std.proofs.lemmas.Nat.Bits.{bit_at-trailing_zeros}
use Rattle.known_column.specs.Columns.{count_in_block}
use Rattle.aggregates.specs.SumsOfCells.{FitsCell}
use Rattle.kleene_filter.specs.Filters.{is_certain, is_possible, truth_at, truths_under}
use Rattle.kleene_filter.proofs.WordBits.{both_bits}
use Rattle.query_model.specs.Queries.{Aggregate, term_of}
use Rattle.query_model.specs.Knowledge.{ranges_of}
use Rattle.query_model.specs.Truths.{may_be_null, null_of, span_of}
use Rattle.query_model.specs.Validity.{declared_ranges}
use Rattle.row_values.specs.BlockValues.{AreShortValues}
use Rattle.row_values.specs.declared.short.ShortInterval.{ShortInterval}
use Rattle.round_engine.specs.Engines.{stage_of}
use Rattle.round_engine.specs.KeptSums.{columns_of}
use Rattle.round_engine.specs.MovedCells.{AreMovedBelow, IsRowMoved}
use Rattle.round_engine.specs.Stages.{Stage}
use Rattle.round_engine.proofs.CellKept.{parted_rows}
use Rattle.round_engine.proofs.CellPairs.{filter_words}
use Rattle.round_engine.proofs.CellRows.{cell_counted, cell_is, cell_single, cells_fit}
use Rattle.round_engine.proofs.CompactCells.{high_again, low_again, short_fits}
use Rattle.round_engine.proofs.FilledBlocks.{filter_bit}
use Rattle.round_engine.proofs.MovedCells.{digit_not, moved_passes, stage_followed, words_tell}
use Rattle.round_engine.proofs.ReadBlocks.{first_low}
use Rattle.round_engine.proofs.SetBits.{bit_below, done_more, done_start, done_whole, rest_inside}
use Rattle.round_engine.proofs.RowPairs.{rows_of_mask}
use Rattle.round_engine.proofs.moved_cells.sum_block.Goals as goal

abbrev again : ℤ → ℤ
again z = to_z w64 (of_z w64 z)

pub word-may-requires : goal.word-may-requires
word-may-requires c = omega (arith, c.requires.number, rows_of_mask is_possible c.may.result.now c.args.rows.filter.now.truths c.args.query.now.pred c.args.columns.now c.may.ensures c.requires.judged)

pub word-must-requires : goal.word-must-requires
word-must-requires c = omega (arith, c.requires.number, rows_of_mask is_certain c.must.result.now c.args.rows.filter.now.truths c.args.query.now.pred c.args.columns.now c.must.ensures c.requires.judged)

pub returns-then-moved-eq0-clause-counted : goal.returns-then-moved-eq0-clause-counted
returns-then-moved-eq0-clause-counted c = λ before is were start.
    let query = c.args.query.now in
    let columns = c.args.columns.now in
    let item = c.args.item.now in
    let number = c.args.number in
    let stage = stage_of query columns in
    let frames : columns.frame ≡ before.frame = ap (λ (s : Stage). s.frame) is.read in
    let words = filter_words query columns c.args.rows.filter.now.truths number c.may.result.now c.must.result.now c.word-may.result c.word-must.result c.requires.judged c.may.ensures c.must.ensures c.word-may.ensures c.word-must.ensures in
    let in_before : (r : ℕ) → r < count_in_block number columns.frame.rows → r < count_in_block number before.frame.rows = λ r below. subst (λ f. r < count_in_block number f.rows) frames below in
    let may_was = λ (r : ℕ) (below : r < count_in_block number columns.frame.rows). filter_bit is_possible c.args.seen.now.may (truths_under before.query.pred (columns_of before)) before.query.pred (columns_of before) c.word-2.result number r were.may_is refl c.word-2.ensures (in_before r below) in
    let must_was = λ (r : ℕ) (below : r < count_in_block number columns.frame.rows). filter_bit is_certain c.args.seen.now.must (truths_under before.query.pred (columns_of before)) before.query.pred (columns_of before) c.word.result number r were.must_is refl c.word.ensures (in_before r below) in
    let as_many : c.min-count.result ≡ count_in_block number columns.frame.rows = omega (arith, c.min-count.ensures, c.rows.ensures.rows) in
    let union = bit_or (bit_and c.word-must.result (bit_not w64 c.word.result)) (bit_and c.word-2.result (bit_not w64 c.word-may.result)) in
    let told = words_tell before stage item number c.word-may.result c.word-must.result c.word-2.result c.word.result c.first_bits-moved.result c.word-may.type_inv c.word.type_inv
    (c.first_bits-moved.ensures ∙ ap (λ n. union % 2 ^ n) as_many) words.may_bit words.must_bit may_was must_was in
    let end : 64 * number + count_in_block number columns.frame.rows ≡ min (64 * number + 64) columns.frame.rows = omega (arith, c.requires.number) in
    let first : 64 * number ≡ 64 * number + 0 = omega arith in
    subst (λ n. AreMovedBelow before stage item n c.args.moves.now) end
    (done_whole _ c.first_bits-moved.result c.first_bits-moved.result _ (moved_passes stage item before is c.pairs_are_few.ensures number c.first_bits-moved.result told c.args.moves.now)
    (done_start _ c.first_bits-moved.result _ (subst (λ n. AreMovedBelow before stage item n c.args.moves.now) first start)) c.if-moved-eq0.true)

pub cell_of-cell-requires : goal.cell_of-cell-requires
cell_of-cell-requires c =
    let columns = c.args.columns.now in
    let number = c.args.number in
    let as_many : c.min-count.result ≡ count_in_block number columns.frame.rows = omega (arith, c.min-count.ensures, c.rows.ensures.rows) in
    let lowest = bit_at-trailing_zeros w64 c.loop-rest.rest (omega (arith, c.loop-rest-test.true)) c.loop-rest.auto.rest-fits.fits in
    let here : trailing_zeros w64 c.loop-rest.rest < count_in_block number columns.frame.rows =
    bit_below c.first_bits-moved.result (count_in_block number columns.frame.rows) (trailing_zeros w64 c.loop-rest.rest) (first_low c.first_bits-moved.result _ (count_in_block number columns.frame.rows) (c.first_bits-moved.ensures ∙ ap (λ n. bit_or (bit_and c.word-must.result (bit_not w64 c.word.result)) (bit_and c.word-2.result (bit_not w64 c.word-may.result)) % 2 ^ n) as_many))
    (c.loop-rest.invariant.inside (trailing_zeros w64 c.loop-rest.rest) (ap (λ b. b == 1) lowest.1)) in
    omega (arith, here, parted_rows (stage_of c.args.query.now columns) c.args.rows.cells.now c.args.rows.single.now c.requires.parted)

pub bounds-rows-cell : goal.bounds-rows-cell
bounds-rows-cell c =
    let columns = c.args.columns.now in
    let number = c.args.number in
    let as_many : c.min-count.result ≡ count_in_block number columns.frame.rows = omega (arith, c.min-count.ensures, c.rows.ensures.rows) in
    let lowest = bit_at-trailing_zeros w64 c.loop-rest.rest (omega (arith, c.loop-rest-test.true)) c.loop-rest.auto.rest-fits.fits in
    let here : trailing_zeros w64 c.loop-rest.rest < count_in_block number columns.frame.rows =
    bit_below c.first_bits-moved.result (count_in_block number columns.frame.rows) (trailing_zeros w64 c.loop-rest.rest) (first_low c.first_bits-moved.result _ (count_in_block number columns.frame.rows) (c.first_bits-moved.ensures ∙ ap (λ n. bit_or (bit_and c.word-must.result (bit_not w64 c.word.result)) (bit_and c.word-2.result (bit_not w64 c.word-may.result)) % 2 ^ n) as_many))
    (c.loop-rest.invariant.inside (trailing_zeros w64 c.loop-rest.rest) (ap (λ b. b == 1) lowest.1)) in
    let stage = stage_of c.args.query.now columns in
    let kept = c.requires.open_stage in
    let counted = cell_counted stage c.args.rows.cells.now c.args.rows.single.now c.requires.parted kept.knowledge (64 * number + trailing_zeros w64 c.loop-rest.rest) (omega (arith, here)) c.cell_of-cell.result c.cell_of-cell.ensures.cell in
    omega (arith, counted, cells_fit stage kept, c.requires.parted.room)

pub add_row-requires-clause-fits : goal.add_row-requires-clause-fits
add_row-requires-clause-fits c =
    let item = c.args.item.now in
    let columns = c.args.columns.now in
    let number = c.args.number in
    let as_many : c.min-count.result ≡ count_in_block number columns.frame.rows = omega (arith, c.min-count.ensures, c.rows.ensures.rows) in
    let lowest = bit_at-trailing_zeros w64 c.loop-rest.rest (omega (arith, c.loop-rest-test.true)) c.loop-rest.auto.rest-fits.fits in
    let here : trailing_zeros w64 c.loop-rest.rest < count_in_block number columns.frame.rows =
    bit_below c.first_bits-moved.result (count_in_block number columns.frame.rows) (trailing_zeros w64 c.loop-rest.rest) (first_low c.first_bits-moved.result _ (count_in_block number columns.frame.rows) (c.first_bits-moved.ensures ∙ ap (λ n. bit_or (bit_and c.word-must.result (bit_not w64 c.word.result)) (bit_and c.word-2.result (bit_not w64 c.word-may.result)) % 2 ^ n) as_many))
    (c.loop-rest.invariant.inside (trailing_zeros w64 c.loop-rest.rest) (ap (λ b. b == 1) lowest.1)) in
    let r = trailing_zeros w64 c.loop-rest.rest in
    let arg : term_of c.item.inside.arg ≡ item.arg = ap (λ (i : Aggregate). i.arg) c.item.view_is in
    let values = c.read-values.result in
    let read = subst (λ e. AreShortValues e columns number values) arg c.read-values.ensures in
    let span = c.index-values-row.result in
    let at : slice_get values.spans r ≡ Some span = slice_get-get_or values.spans r span (omega (arith, read.count, here)) ∙ ap Some (sym c.index-values-row.is) in
    let short = read.spans r span here at in
    let fits = short_fits (span_of item.arg (declared_ranges columns.frame)) span short.inside c.requires.fits.cell in
    let low_is : again (get_or values.spans r span).lo ≡ span.lo = ap (λ (s : ShortInterval). again s.lo) (sym c.index-values-row.is) ∙ low_again span fits in
    let high_is : again (get_or values.spans r span).hi ≡ span.hi = ap (λ (s : ShortInterval). again s.hi) (sym c.index-values-row.is) ∙ high_again span fits in
    subst (λ n. FitsCell n (again (get_or values.spans r span).hi)) (sym low_is) (subst (λ n. FitsCell span.lo n) (sym high_is) fits)

pub loop-rest-init : goal.loop-rest-init
loop-rest-init c = record {
  room = refl;
  cells = refl;
  inside = λ row bit. bit;
  counted = λ before is were start. done_start _ c.first_bits-moved.result _ (let first : 64 * c.args.number ≡ 64 * c.args.number + 0 = omega arith in
      subst (λ n. AreMovedBelow before (stage_of c.args.query.now c.args.columns.now) c.args.item.now n c.args.moves.now) first start);
}

pub loop-rest-preserved : goal.loop-rest-preserved
loop-rest-preserved c = record {
  room = c.add_row.ensures.room ∙ c.loop-rest.invariant.room;
  cells = c.add_row.ensures.count ∙ c.loop-rest.invariant.cells;
  inside = λ row bit. c.loop-rest.invariant.inside row (rest_inside c.loop-rest.rest (omega (arith, c.loop-rest-test.true)) c.loop-rest.auto.rest-fits.fits row bit);
  counted = λ before is were start.
      (let query = c.args.query.now in
      let columns = c.args.columns.now in
      let item = c.args.item.now in
      let number = c.args.number in
      let stage = stage_of query columns in
      let frames : columns.frame ≡ before.frame = ap (λ (s : Stage). s.frame) is.read in
      let words = filter_words query columns c.args.rows.filter.now.truths number c.may.result.now c.must.result.now c.word-may.result c.word-must.result c.requires.judged c.may.ensures c.must.ensures c.word-may.ensures c.word-must.ensures in
      let in_before : (r : ℕ) → r < count_in_block number columns.frame.rows → r < count_in_block number before.frame.rows = λ r below. subst (λ f. r < count_in_block number f.rows) frames below in
      let may_was = λ (r : ℕ) (below : r < count_in_block number columns.frame.rows). filter_bit is_possible c.args.seen.now.may (truths_under before.query.pred (columns_of before)) before.query.pred (columns_of before) c.word-2.result number r were.may_is refl c.word-2.ensures (in_before r below) in
      let must_was = λ (r : ℕ) (below : r < count_in_block number columns.frame.rows). filter_bit is_certain c.args.seen.now.must (truths_under before.query.pred (columns_of before)) before.query.pred (columns_of before) c.word.result number r were.must_is refl c.word.ensures (in_before r below) in
      let as_many : c.min-count.result ≡ count_in_block number columns.frame.rows = omega (arith, c.min-count.ensures, c.rows.ensures.rows) in
      let union = bit_or (bit_and c.word-must.result (bit_not w64 c.word.result)) (bit_and c.word-2.result (bit_not w64 c.word-may.result)) in
      let told = words_tell before stage item number c.word-may.result c.word-must.result c.word-2.result c.word.result c.first_bits-moved.result c.word-may.type_inv c.word.type_inv
      (c.first_bits-moved.ensures ∙ ap (λ n. union % 2 ^ n) as_many) words.may_bit words.must_bit may_was must_was in
      let as_many : c.min-count.result ≡ count_in_block number columns.frame.rows = omega (arith, c.min-count.ensures, c.rows.ensures.rows) in
      let lowest = bit_at-trailing_zeros w64 c.loop-rest.rest (omega (arith, c.loop-rest-test.true)) c.loop-rest.auto.rest-fits.fits in
      let here : trailing_zeros w64 c.loop-rest.rest < count_in_block number columns.frame.rows =
      bit_below c.first_bits-moved.result (count_in_block number columns.frame.rows) (trailing_zeros w64 c.loop-rest.rest) (first_low c.first_bits-moved.result _ (count_in_block number columns.frame.rows) (c.first_bits-moved.ensures ∙ ap (λ n. bit_or (bit_and c.word-must.result (bit_not w64 c.word.result)) (bit_and c.word-2.result (bit_not w64 c.word-may.result)) % 2 ^ n) as_many))
      (c.loop-rest.invariant.inside (trailing_zeros w64 c.loop-rest.rest) (ap (λ b. b == 1) lowest.1)) in
      let kept = c.requires.open_stage in
      let r = trailing_zeros w64 c.loop-rest.rest in
      let row = 64 * number + r in
      let cell = c.cell_of-cell.result in
      let there = c.cell_of-cell.ensures.cell in
      let in_rows : row < columns.frame.rows = omega (arith, here) in
      let inside_cells = cell_counted stage c.args.rows.cells.now c.args.rows.single.now c.requires.parted kept.knowledge row in_rows cell there in
      let alone = get_or c.args.rows.single.now cell false in
      let single = get_or_from_slice_get c.args.rows.single.now cell _ false (cell_single stage c.args.rows.cells.now c.args.rows.single.now c.requires.parted kept.knowledge row in_rows c.cells_tell_keys.ensures cell there) in
      let arg : term_of c.item.inside.arg ≡ item.arg = ap (λ (i : Aggregate). i.arg) c.item.view_is in
      let values = c.read-values.result in
      let read = subst (λ e. AreShortValues e columns number values) arg c.read-values.ensures in
      let span = c.index-values-row.result in
      let at : slice_get values.spans r ≡ Some span = slice_get-get_or values.spans r span (omega (arith, read.count, here)) ∙ ap Some (sym c.index-values-row.is) in
      let short = read.spans r span here at in
      let fits = short_fits (span_of item.arg (declared_ranges columns.frame)) span short.inside c.requires.fits.cell in
      let low_is : again (get_or values.spans r span).lo ≡ span.lo = ap (λ (s : ShortInterval). again s.lo) (sym c.index-values-row.is) ∙ low_again span fits in
      let high_is : again (get_or values.spans r span).hi ≡ span.hi = ap (λ (s : ShortInterval). again s.hi) (sym c.index-values-row.is) ∙ high_again span fits in
      let null = null_of item.arg (ranges_of columns.frame columns.known row) in
      let came_is = both_bits r _ values.sure _ _ (both_bits r c.word-must.result _ _ _ (words.must_bit r here) (digit_not c.word.result r _ c.word.type_inv (omega (arith, here)) (must_was r here))) (read.sure r here) in
      let left_is = both_bits r _ values.possible _ _ (both_bits r c.word-2.result _ _ _ (may_was r here) (digit_not c.word-may.result r _ c.word-may.type_inv (omega (arith, here)) (words.may_bit r here))) (read.possible r here) in
      let counted = subst (λ n. IsRowMoved c.loop-rest.moves c.add_row.new.moves cell (c.has_bit.result && alone) c.has_bit-leaves.result n span.hi) low_is
      (subst (λ n. IsRowMoved c.loop-rest.moves c.add_row.new.moves cell (c.has_bit.result && alone) c.has_bit-leaves.result (again (get_or values.spans r span).lo) n) high_is c.add_row.ensures) in
      let next : row + 1 ≡ 64 * number + (r + 1) = omega arith in
      done_more (count_in_block number columns.frame.rows) c.first_bits-moved.result c.loop-rest.rest _ (moved_passes stage item before is c.pairs_are_few.ensures number c.first_bits-moved.result told c.loop-rest.moves)
      (c.loop-rest.invariant.counted before is were start) _ (omega (arith, c.loop-rest-test.true)) c.loop-rest.auto.rest-fits.fits here
      (λ moved. subst (λ n. AreMovedBelow before stage item n c.add_row.new.moves) next (stage_followed stage item before is row in_rows c.pairs_are_few.ensures c.loop-rest.moves c.add_row.new.moves cell (c.has_bit.result && alone) c.has_bit-leaves.result (record { low = span.lo; high = span.hi })
      (record {
        place = cell_is stage c.args.rows.cells.now c.args.rows.single.now c.requires.parted kept.knowledge row in_rows cell there;
        came_is = ap (λ b. b && alone) (c.has_bit.ensures ∙ came_is) ∙ ap (λ b. ((is_certain (truth_at query.pred columns row) && not (is_certain (truth_at before.query.pred (columns_of before) row))) && not (may_be_null null)) && b) single;
        left_is = c.has_bit-leaves.ensures ∙ left_is;
        lies = λ some. short.exact some;
        fits = fits;
        inside = inside_cells;
        counted = counted;
      }) moved)));
}

pub returns-clause-counted : goal.returns-clause-counted
returns-clause-counted c = λ before is were start.
    let query = c.args.query.now in
    let columns = c.args.columns.now in
    let item = c.args.item.now in
    let number = c.args.number in
    let stage = stage_of query columns in
    let frames : columns.frame ≡ before.frame = ap (λ (s : Stage). s.frame) is.read in
    let words = filter_words query columns c.args.rows.filter.now.truths number c.may.result.now c.must.result.now c.word-may.result c.word-must.result c.requires.judged c.may.ensures c.must.ensures c.word-may.ensures c.word-must.ensures in
    let in_before : (r : ℕ) → r < count_in_block number columns.frame.rows → r < count_in_block number before.frame.rows = λ r below. subst (λ f. r < count_in_block number f.rows) frames below in
    let may_was = λ (r : ℕ) (below : r < count_in_block number columns.frame.rows). filter_bit is_possible c.args.seen.now.may (truths_under before.query.pred (columns_of before)) before.query.pred (columns_of before) c.word-2.result number r were.may_is refl c.word-2.ensures (in_before r below) in
    let must_was = λ (r : ℕ) (below : r < count_in_block number columns.frame.rows). filter_bit is_certain c.args.seen.now.must (truths_under before.query.pred (columns_of before)) before.query.pred (columns_of before) c.word.result number r were.must_is refl c.word.ensures (in_before r below) in
    let as_many : c.min-count.result ≡ count_in_block number columns.frame.rows = omega (arith, c.min-count.ensures, c.rows.ensures.rows) in
    let union = bit_or (bit_and c.word-must.result (bit_not w64 c.word.result)) (bit_and c.word-2.result (bit_not w64 c.word-may.result)) in
    let told = words_tell before stage item number c.word-may.result c.word-must.result c.word-2.result c.word.result c.first_bits-moved.result c.word-may.type_inv c.word.type_inv
    (c.first_bits-moved.ensures ∙ ap (λ n. union % 2 ^ n) as_many) words.may_bit words.must_bit may_was must_was in
    let end : 64 * number + count_in_block number columns.frame.rows ≡ min (64 * number + 64) columns.frame.rows = omega (arith, c.requires.number) in
    subst (λ n. AreMovedBelow before stage item n c.loop-rest.moves) end
    (done_whole _ c.first_bits-moved.result c.loop-rest.rest _ (moved_passes stage item before is c.pairs_are_few.ensures number c.first_bits-moved.result told c.loop-rest.moves)
    (c.loop-rest.invariant.counted before is were start) (omega (arith, c.loop-rest-test.false)))
