use Rattle.std.proofs.Common.{◌≡◌, ℕ, ◌+◌, ◌*◌, ◌<◌, ◌≤◌, ◌≤ℤ◌, ◌==◌, ◌||◌, min, pos, negsuc, true, false, get_or, slice_get, Some, refl, ap, sym, subst, ◌∙◌, arith, ℤ, to_z, of_z, unsigned_abs, inl, inr}
use Rattle.std.proofs.lemmas.Int.{ints}
use Rattle.std.proofs.lemmas.Option.{slice_get-get_or}
use Rattle.std.specs.Int.{trailing_zeros, w64}
use Rattle.std.specs.Int.Bits.{bit_or}
use Rattle.std.proofs.lemmas.Bool.{cases_Bool, or_parts}
use Rattle.std.proofs.lemmas.Nat.{or_lt}
use Rattle.std.proofs.lemmas.Nat.Bits.{bit_at-trailing_zeros}
use Rattle.known_column.specs.Columns.{count_in_block}
use Rattle.aggregates.specs.SumsOfCells.{FitsCell}
use Rattle.query_model.specs.Queries.{Aggregate, term_of}
use Rattle.query_model.specs.Truths.{span_of}
use Rattle.query_model.specs.Validity.{declared_ranges}
use Rattle.interval_calc.specs.Intervals.{Interval}
use Rattle.row_values.specs.BlockValues.{AreShortValues}
use Rattle.row_values.specs.declared.short.ShortInterval.{ShortInterval}
use Rattle.round_engine.proofs.CompactCells.{high_again, short_fits}
use Rattle.plane_kernels.specs.Rows.{digit_at}
use Rattle.kleene_filter.proofs.WordBits.{digit-or}
use Rattle.digit_sums.specs.Ones.{CountedBits}
use Rattle.round_engine.specs.Engines.{stage_of}
use Rattle.round_engine.specs.ReadCells.{AreReadBelow, IsRowAdded}
use Rattle.round_engine.proofs.ReadBlocks.{may_there, never_null, quiet, row_added, row_passed, sure_fits, sure_there, sure_word, unsure_fits, unsure_there, unsure_word}
use Rattle.round_engine.proofs.SetBits.{bit_below, done_more, done_start, done_whole, rest_inside}
use Rattle.round_engine.proofs.read_cells.count_unsure.Goals as goal

abbrev again : ℤ → ℤ
again z = to_z w64 (of_z w64 z)

few_high : (z : ℤ) (h : ℕ) → negsuc 549755813886 ≤ℤ z → z ≤ℤ pos 549755813887 → h ≡ unsigned_abs z → h ≤ 549755813887
few_high (pos n) h low high is = omega (arith, ints, high, is)
few_high (negsuc n) h low high is = omega (arith, ints, low, is)

few_cell : (low high : ℤ) (h : ℕ) → FitsCell low high → h ≡ unsigned_abs high → h ≤ 549755813887
few_cell low high h fits is = (let least = fits.low_is in let ordered = fits.ordered in few_high high h (omega (arith, ints, least, ordered)) fits.high_is is)

pub add_row-requires-clause-cell : goal.add_row-requires-clause-cell
add_row-requires-clause-cell c =
    let stage = stage_of c.args.query.now c.args.columns.now in
    let words = c.args.words in
    let told = c.requires.words in
    let known = c.args.rows.known.now in
    let bits = c.args.plane.now in
    let number = c.args.number in
    let count = count_in_block number stage.frame.rows in
    let rest = c.loop-rest.rest in
    let row = trailing_zeros w64 rest in
    let some : 0 < rest = omega (arith, c.loop-rest-test.true) in
    let lowest = bit_at-trailing_zeros w64 rest some c.loop-rest.auto.rest-fits.fits in
    let union = bit_or (sure_word stage known bits number words told) (unsure_word stage known bits number words told) in
    let union_is : bit_or c.counted.result c.unsure.result ≡ union = ap (λ n. bit_or n c.unsure.result) c.counted.ensures ∙ ap (bit_or (sure_word stage known bits number words told)) c.unsure.ensures in
    let bit : digit_at row union ≡ true = sym (ap (digit_at row) union_is) ∙ c.loop-rest.invariant.inside row (ap (λ b. b == 1) lowest.1) in
    let here : row < count = bit_below union count row (or_lt count (sure_word stage known bits number words told) (unsure_word stage known bits number words told) (sure_fits stage known bits number words told) (unsure_fits stage known bits number words told)) bit in
    omega (arith, c.from.ensures, c.requires.own.inside row here, c.requires.cells, c.loop-rest.invariant.cells)

pub add_row-requires-clause-highs : goal.add_row-requires-clause-highs
add_row-requires-clause-highs c =
    let stage = stage_of c.args.query.now c.args.columns.now in
    let words = c.args.words in
    let told = c.requires.words in
    let known = c.args.rows.known.now in
    let bits = c.args.plane.now in
    let number = c.args.number in
    let count = count_in_block number stage.frame.rows in
    let rest = c.loop-rest.rest in
    let row = trailing_zeros w64 rest in
    let some : 0 < rest = omega (arith, c.loop-rest-test.true) in
    let lowest = bit_at-trailing_zeros w64 rest some c.loop-rest.auto.rest-fits.fits in
    let union = bit_or (sure_word stage known bits number words told) (unsure_word stage known bits number words told) in
    let union_is : bit_or c.counted.result c.unsure.result ≡ union = ap (λ n. bit_or n c.unsure.result) c.counted.ensures ∙ ap (bit_or (sure_word stage known bits number words told)) c.unsure.ensures in
    let bit : digit_at row union ≡ true = sym (ap (digit_at row) union_is) ∙ c.loop-rest.invariant.inside row (ap (λ b. b == 1) lowest.1) in
    let here : row < count = bit_below union count row (or_lt count (sure_word stage known bits number words told) (unsure_word stage known bits number words told) (sure_fits stage known bits number words told) (unsure_fits stage known bits number words told)) bit in
    omega (arith, c.from.ensures, c.requires.own.inside row here, c.requires.highs, c.loop-rest.invariant.highs)

pub loop-rest-init : goal.loop-rest-init
loop-rest-init c = record {
  room = refl;
  cells = refl;
  highs = refl;
  inside = λ row bit. bit;
  done = λ before is start. done_start _ (bit_or c.counted.result c.unsure.result) _ (let same : 64 * c.args.number ≡ 64 * c.args.number + 0 = omega arith in
      subst (λ n. AreReadBelow before (stage_of c.args.query.now c.args.columns.now) c.args.item.now c.args.rows.ends c.args.rows.single.now n c.args.ones.now) same start);
}

pub loop-rest-preserved : goal.loop-rest-preserved
loop-rest-preserved c = record {
  room = c.add_row.ensures.room ∙ c.loop-rest.invariant.room;
  cells = c.add_row.ensures.cells ∙ c.loop-rest.invariant.cells;
  highs = c.add_row.ensures.highs ∙ c.loop-rest.invariant.highs;
  inside = λ row bit. c.loop-rest.invariant.inside row (rest_inside c.loop-rest.rest (omega (arith, c.loop-rest-test.true)) c.loop-rest.auto.rest-fits.fits row bit);
  done = λ before is start.
      (let stage = stage_of c.args.query.now c.args.columns.now in
      let words = c.args.words in
      let told = c.requires.words in
      let known = c.args.rows.known.now in
      let bits = c.args.plane.now in
      let number = c.args.number in
      let count = count_in_block number stage.frame.rows in
      let rest = c.loop-rest.rest in
      let row = trailing_zeros w64 rest in
      let some : 0 < rest = omega (arith, c.loop-rest-test.true) in
      let lowest = bit_at-trailing_zeros w64 rest some c.loop-rest.auto.rest-fits.fits in
      let union = bit_or (sure_word stage known bits number words told) (unsure_word stage known bits number words told) in
      let union_is : bit_or c.counted.result c.unsure.result ≡ union = ap (λ n. bit_or n c.unsure.result) c.counted.ensures ∙ ap (bit_or (sure_word stage known bits number words told)) c.unsure.ensures in
      let bit : digit_at row union ≡ true = sym (ap (digit_at row) union_is) ∙ c.loop-rest.invariant.inside row (ap (λ b. b == 1) lowest.1) in
      let here : row < count = bit_below union count row (or_lt count (sure_word stage known bits number words told) (unsure_word stage known bits number words told) (sure_fits stage known bits number words told) (unsure_fits stage known bits number words told)) bit in
      let may : digit_at row words.may ≡ true = elim (cases_Bool (digit_at row (sure_word stage known bits number words told))) [
        | inl sure ↦ may_there stage known bits number words told row here (sure_there stage known bits number words told row sure)
        | inr not_sure ↦ unsure_there stage known bits number words told row here
            (sym (ap (λ b. b || digit_at row (unsure_word stage known bits number words told)) not_sure) ∙ sym (digit-or row (sure_word stage known bits number words told) (unsure_word stage known bits number words told)) ∙ bit)
      ] in
      let item = c.args.item.now in
      let arg : term_of c.item.inside.arg ≡ item.arg = ap (λ (i : Aggregate). i.arg) c.item.view_is in
      let values = c.read-values.result in
      let read = subst (λ e. AreShortValues e c.args.columns.now number values) arg c.read-values.ensures in
      let span = c.index-values-row.result in
      let at : slice_get values.spans row ≡ Some span = slice_get-get_or values.spans row span (omega (arith, read.count, here)) ∙ ap Some (sym c.index-values-row.is) in
      let short = read.spans row span here at in
      let fits = short_fits (span_of item.arg (declared_ranges c.args.columns.now.frame)) span short.inside c.requires.fits.cell in
      let high_is : again (get_or values.spans row span).hi ≡ span.hi = ap (λ (s : ShortInterval). again s.hi) (sym c.index-values-row.is) ∙ high_again span fits in
      let old = c.loop-rest.ones in
      let new = c.add_row.new.ones in
      let cell = get_or c.args.cells.now row 0 in
      let h = c.unsigned_abs-high.result in
      let abs_is : h ≡ unsigned_abs span.hi = c.unsigned_abs-high.ensures.value ∙ ap unsigned_abs high_is in
      let small : h ≤ 549755813887 = few_cell span.lo span.hi h fits abs_is in
      let ended = short.exact (never_null stage item known c.requires.over c.requires.ends.never_null (64 * number + row)) in
      let added : IsRowAdded old new cell (digit_at row words.must) (digit_at row words.ones) (digit_at row words.top) h =
      subst (λ k. IsRowAdded old new k (digit_at row words.must) (digit_at row words.ones) (digit_at row words.top) h) c.from.ensures
      (subst (λ b. IsRowAdded old new c.from.result b (digit_at row words.ones) (digit_at row words.top) h) c.has_bit-sure.ensures
      (subst (λ b. IsRowAdded old new c.from.result c.has_bit-sure.result b (digit_at row words.top) h) c.has_bit-one.ensures
      (subst (λ b. IsRowAdded old new c.from.result c.has_bit-sure.result c.has_bit-one.result b h) c.has_bit-at_top.ensures c.add_row.ensures))) in
      let passes = λ (counts : CountedBits) (r : ℕ) (below : r < count_in_block c.args.number c.args.columns.now.frame.rows) (none : digit_at r (bit_or c.counted.result c.unsure.result) ≡ false).
      (let both = or_parts (digit_at r c.counted.result) (digit_at r c.unsure.result) (sym (digit-or r c.counted.result c.unsure.result) ∙ none) in
      row_passed (stage_of c.args.query.now c.args.columns.now) c.args.item.now c.args.plane.now before is c.requires.open_stage c.args.rows.known.now c.requires.over c.args.rows.ends c.requires.ends c.args.rows.single.now c.requires.plane c.args.number c.args.words c.requires.words c.args.cells.now c.requires.own r below
      (quiet (stage_of c.args.query.now c.args.columns.now) c.args.rows.known.now c.args.plane.now c.args.number c.args.words c.requires.words r below (sym (ap (digit_at r) c.counted.ensures) ∙ both.0) (sym (ap (digit_at r) c.unsure.ensures) ∙ both.1)) counts) in
      done_more count (bit_or c.counted.result c.unsure.result) rest _ (passes old) (c.loop-rest.invariant.done before is start) _ some c.loop-rest.auto.rest-fits.fits here
      (row_added (stage_of c.args.query.now c.args.columns.now) c.args.item.now c.args.plane.now before is c.requires.open_stage c.args.rows.known.now c.requires.over c.args.rows.ends c.requires.ends c.args.rows.single.now c.requires.plane c.args.number c.args.words c.requires.words c.args.cells.now c.requires.own row here
      c.pairs_are_few.ensures h old new may small (λ unsure. (sym (ap (λ (i : Interval). unsigned_abs i.high) ended) ∙ sym abs_is, small)) added));
}

pub returns-clause-counted : goal.returns-clause-counted
returns-clause-counted c = λ before is start.
    let end : 64 * c.args.number + count_in_block c.args.number c.args.columns.now.frame.rows ≡ min (64 * c.args.number + 64) c.args.columns.now.frame.rows = omega (arith, c.requires.number) in
    let passes = λ (counts : CountedBits) (r : ℕ) (below : r < count_in_block c.args.number c.args.columns.now.frame.rows) (none : digit_at r (bit_or c.counted.result c.unsure.result) ≡ false).
    (let both = or_parts (digit_at r c.counted.result) (digit_at r c.unsure.result) (sym (digit-or r c.counted.result c.unsure.result) ∙ none) in
    row_passed (stage_of c.args.query.now c.args.columns.now) c.args.item.now c.args.plane.now before is c.requires.open_stage c.args.rows.known.now c.requires.over c.args.rows.ends c.requires.ends c.args.rows.single.now c.requires.plane c.args.number c.args.words c.requires.words c.args.cells.now c.requires.own r below
    (quiet (stage_of c.args.query.now c.args.columns.now) c.args.rows.known.now c.args.plane.now c.args.number c.args.words c.requires.words r below (sym (ap (digit_at r) c.counted.ensures) ∙ both.0) (sym (ap (digit_at r) c.unsure.ensures) ∙ both.1)) counts) in
    subst (λ n. AreReadBelow before (stage_of c.args.query.now c.args.columns.now) c.args.item.now c.args.rows.ends c.args.rows.single.now n c.loop-rest.ones) end
    (done_whole _ (bit_or c.counted.result c.unsure.result) c.loop-rest.rest _ (passes c.loop-rest.ones) (c.loop-rest.invariant.done before is start) (omega (arith, c.loop-rest-test.false)))
