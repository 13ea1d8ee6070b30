use Rattle.std.proofs.Common.{◌≡◌, ℕ, ◌+◌, ◌*◌, ◌^◌, ◌<◌, ◌==◌, ◌&&◌, not, min, Bool, true, false, length, get_or, slice_get, Some, refl, ap, sym, subst, ◌∙◌, arith}
use Rattle.std.specs.Int.{trailing_zeros, w64}
use Rattle.std.proofs.lemmas.Bool.{false≢true}
use Rattle.std.proofs.lemmas.Nat.Bits.{bit_at-trailing_zeros}
use Rattle.known_column.specs.Columns.{count_in_block}
use Rattle.plane_kernels.specs.Rows.{digit_at}
use Rattle.kleene_filter.proofs.WordBits.{digit-zero}
use Rattle.digit_sums.specs.Ones.{CountedBits, with_row}
use Rattle.round_engine.specs.Engines.{stage_of}
use Rattle.round_engine.specs.ReadCells.{AreReadBelow, IsRowAdded}
use Rattle.round_engine.proofs.ReadBlocks.{may_there, quiet, row_added, row_passed, sure_fits, sure_there}
use Rattle.round_engine.proofs.SetBits.{bit_below, done_more, done_start, done_whole, rest_inside}
use Rattle.round_engine.proofs.read_cells.count_sure.Goals as goal

pub add-requires : goal.add-requires
add-requires c =
    let stage = stage_of c.args.query.now c.args.columns.now in
    let words = c.args.words in
    let told = c.requires.words in
    let known = c.args.rows.known.now in
    let bits = c.args.plane.now in
    let number = c.args.number in
    let count = count_in_block number stage.frame.rows in
    let rest = c.loop-rest.rest in
    let row = trailing_zeros w64 rest in
    let some : 0 < rest = omega (arith, c.loop-rest-test.true) in
    let lowest = bit_at-trailing_zeros w64 rest some c.loop-rest.auto.rest-fits.fits in
    let bit : digit_at row c.counted-counted.result ≡ true = c.loop-rest.invariant.inside row (ap (λ b. b == 1) lowest.1) in
    let here : row < count = bit_below c.counted-counted.result count row (subst (λ k. k < 2 ^ count) (sym c.counted-counted.ensures) (sure_fits stage known bits number words told)) bit in
    omega (arith, c.from.ensures, c.requires.own.inside row here, c.requires.cells, c.loop-rest.invariant.cells)

pub loop-rest-init : goal.loop-rest-init
loop-rest-init c = record {
  room = refl;
  cells = refl;
  highs = refl;
  inside = λ row bit. bit;
  done = λ before is start. done_start _ c.counted-counted.result _ (let same : 64 * c.args.number ≡ 64 * c.args.number + 0 = omega arith in
      subst (λ n. AreReadBelow before (stage_of c.args.query.now c.args.columns.now) c.args.item.now c.args.rows.ends c.args.rows.single.now n c.args.ones.now) same start);
}

pub loop-rest-preserved : goal.loop-rest-preserved
loop-rest-preserved c = record {
  room = c.add.ensures.room ∙ c.loop-rest.invariant.room;
  cells = c.add.ensures.count ∙ c.loop-rest.invariant.cells;
  highs = ap length c.add.ensures.highs ∙ c.loop-rest.invariant.highs;
  inside = λ row bit. c.loop-rest.invariant.inside row (rest_inside c.loop-rest.rest (omega (arith, c.loop-rest-test.true)) c.loop-rest.auto.rest-fits.fits row bit);
  done = λ before is start.
      (let stage = stage_of c.args.query.now c.args.columns.now in
      let words = c.args.words in
      let told = c.requires.words in
      let known = c.args.rows.known.now in
      let bits = c.args.plane.now in
      let number = c.args.number in
      let count = count_in_block number stage.frame.rows in
      let rest = c.loop-rest.rest in
      let row = trailing_zeros w64 rest in
      let some : 0 < rest = omega (arith, c.loop-rest-test.true) in
      let lowest = bit_at-trailing_zeros w64 rest some c.loop-rest.auto.rest-fits.fits in
      let bit : digit_at row c.counted-counted.result ≡ true = c.loop-rest.invariant.inside row (ap (λ b. b == 1) lowest.1) in
      let fits = subst (λ k. k < 2 ^ count) (sym c.counted-counted.ensures) (sure_fits stage known bits number words told) in
      let here : row < count = bit_below c.counted-counted.result count row fits bit in
      let must = sure_there stage known bits number words told row (sym (ap (digit_at row) c.counted-counted.ensures) ∙ bit) in
      let may = may_there stage known bits number words told row here must in
      let old = c.loop-rest.ones in
      let new = c.add.new.self in
      let cell = get_or c.args.cells.now row 0 in
      let place : c.from.result ≡ cell = c.from.ensures in
      let added : IsRowAdded old new cell true (digit_at row words.ones) (digit_at row words.top) 0 = record {
        room = c.add.ensures.room;
        cells = c.add.ensures.count;
        highs = ap length c.add.ensures.highs;
        others = λ other away. c.add.ensures.others other (λ e. away (e ∙ place));
        other_highs = λ other away. ap (λ l. slice_get l other) c.add.ensures.highs;
        counted = λ counted ones_fit top_fit at.
            (ap (slice_get new.cells) (sym place) ∙ c.add.ensures.added counted ones_fit top_fit (ap (slice_get old.cells) place ∙ at)
            ∙ ap (λ b. Some (with_row counted b c.has_bit.result)) c.has_bit-one.ensures ∙ ap (λ b. Some (with_row counted (digit_at row words.ones) b)) c.has_bit.ensures);
        ended = λ sum small at. (let same : sum ≡ sum + 0 = omega arith in ap (λ l. slice_get l cell) c.add.ensures.highs ∙ at ∙ ap Some same);
      } in
      let passes = λ (counts : CountedBits) (r : ℕ) (below : r < count_in_block c.args.number c.args.columns.now.frame.rows) (none : digit_at r c.counted-counted.result ≡ false).
      row_passed (stage_of c.args.query.now c.args.columns.now) c.args.item.now c.args.plane.now before is c.requires.open_stage c.args.rows.known.now c.requires.over c.args.rows.ends c.requires.ends c.args.rows.single.now c.requires.plane c.args.number c.args.words c.requires.words c.args.cells.now c.requires.own r below
      (quiet (stage_of c.args.query.now c.args.columns.now) c.args.rows.known.now c.args.plane.now c.args.number c.args.words c.requires.words r below (sym (ap (digit_at r) c.counted-counted.ensures) ∙ none) (ap (digit_at r) c.requires.sure ∙ digit-zero r)) counts in
      done_more count c.counted-counted.result rest _ (passes old) (c.loop-rest.invariant.done before is start) _ some c.loop-rest.auto.rest-fits.fits here
      (row_added (stage_of c.args.query.now c.args.columns.now) c.args.item.now c.args.plane.now before is c.requires.open_stage c.args.rows.known.now c.requires.over c.args.rows.ends c.requires.ends c.args.rows.single.now c.requires.plane c.args.number c.args.words c.requires.words c.args.cells.now c.requires.own row here
      c.pairs_are_few.ensures 0 old new may (omega arith) (λ unsure. absurd (false≢true (sym (ap (λ m. digit_at row words.may && not m) must ∙ none (digit_at row words.may)) ∙ unsure)))
      (subst (λ m. IsRowAdded old new cell m (digit_at row words.ones) (digit_at row words.top) 0) (sym must) added)));
}
  where
    none : (b : Bool) → (b && false) ≡ false
    none true = refl
    none false = refl

pub returns-clause-counted : goal.returns-clause-counted
returns-clause-counted c = λ before is start.
    let end : 64 * c.args.number + count_in_block c.args.number c.args.columns.now.frame.rows ≡ min (64 * c.args.number + 64) c.args.columns.now.frame.rows = omega (arith, c.requires.number) in
    let passes = λ (counts : CountedBits) (r : ℕ) (below : r < count_in_block c.args.number c.args.columns.now.frame.rows) (none : digit_at r c.counted-counted.result ≡ false).
    row_passed (stage_of c.args.query.now c.args.columns.now) c.args.item.now c.args.plane.now before is c.requires.open_stage c.args.rows.known.now c.requires.over c.args.rows.ends c.requires.ends c.args.rows.single.now c.requires.plane c.args.number c.args.words c.requires.words c.args.cells.now c.requires.own r below
    (quiet (stage_of c.args.query.now c.args.columns.now) c.args.rows.known.now c.args.plane.now c.args.number c.args.words c.requires.words r below (sym (ap (digit_at r) c.counted-counted.ensures) ∙ none) (ap (digit_at r) c.requires.sure ∙ digit-zero r)) counts in
    subst (λ n. AreReadBelow before (stage_of c.args.query.now c.args.columns.now) c.args.item.now c.args.rows.ends c.args.rows.single.now n c.loop-rest.ones) end
    (done_whole _ c.counted-counted.result c.loop-rest.rest _ (passes c.loop-rest.ones) (c.loop-rest.invariant.done before is start) (omega (arith, c.loop-rest-test.false)))
