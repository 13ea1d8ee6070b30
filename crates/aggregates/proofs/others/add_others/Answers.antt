use Rattle.std.proofs.Common.{◌≡◌, ◌*◌, Bool, length, map, take, drop, refl, sym, ◌∙◌, arith}
use Rattle.std.proofs.lemmas.List.{length-take}
use Rattle.std.proofs.lemmas.List.Sums.{count_by-le-length}
use Rattle.known_column.specs.Columns.{is_at_top, rows_of_column}
use Rattle.aggregates.specs.Selections.{block_of}
use Rattle.aggregates.specs.Widening.{widening_rows}
use Rattle.aggregates.proofs.MaskSums.{count_both-le}
use Rattle.aggregates.proofs.RowSums.{sums_all, sums_next}
use Rattle.aggregates.proofs.Widening.{widening_long}
use Rattle.aggregates.proofs.others.add_others.Goals as goal

pub loop-block-init : goal.loop-block-init
loop-block-init c = (record { rows = c.none-sums.ensures.rows; at_top = c.none-sums.ensures.at_top; numbers = c.none-sums.ensures.numbers }, omega (arith, c.none-sums.ensures.numbers))

pub overflow_add-sums : goal.overflow_add-sums
overflow_add-sums c =
    let rows = widening_rows c.args.end c.args.known.now c.args.may.now c.args.must.now in
    let at = 512 * c.loop-block.block in
    let long = widening_long c.args.end c.args.known.now c.args.may.now c.args.must.now (c.requires.must ∙ sym c.requires.may) in
    record {
      fits = omega (
        arith,
        c.loop-block.invariant.0.rows,
        count_by-le-length {X = Bool} (λ b. b) (take at rows),
        length-take at rows,
        c.sums_in-more.ensures.sums.rows,
        count_by-le-length {X = Bool} (λ b. b) (block_of c.loop-block.block rows),
        length-take 512 (drop at rows),
        long,
        c.requires.may,
        c.rows-rows.ensures.rows,
        c.rows-rows.ensures.few,
      );
    }

pub overflow_add-sums-in-loop-block : goal.overflow_add-sums-in-loop-block
overflow_add-sums-in-loop-block c =
    let rows = widening_rows c.args.end c.args.known.now c.args.may.now c.args.must.now in
    let at = 512 * c.loop-block.block in
    let long = widening_long c.args.end c.args.known.now c.args.may.now c.args.must.now (c.requires.must ∙ sym c.requires.may) in
    let top = is_at_top c.args.known.now.ends c.args.known.now.known.read in
    let ps = c.args.known.now.known.prefixes in
    record {
      fits = omega (
        arith,
        c.loop-block.invariant.0.at_top,
        count_both-le (take at rows) (map top (take at ps)),
        count_by-le-length {X = Bool} (λ b. b) (take at rows),
        length-take at rows,
        c.sums_in-more.ensures.sums.at_top,
        count_both-le (block_of c.loop-block.block rows) (map top (block_of c.loop-block.block ps)),
        count_by-le-length {X = Bool} (λ b. b) (block_of c.loop-block.block rows),
        length-take 512 (drop at rows),
        long,
        c.requires.may,
        c.rows-rows.ensures.rows,
        c.rows-rows.ensures.few,
      );
    }

pub loop-block-preserved : goal.loop-block-preserved
loop-block-preserved c =
    let column = c.args.known.now in
    let rows = widening_rows c.args.end column c.args.may.now c.args.must.now in
    let long : length rows ≡ rows_of_column column = widening_long c.args.end column c.args.may.now c.args.must.now (c.requires.must ∙ sym c.requires.may) ∙ c.requires.may in
    (sums_next column rows c.loop-block.block c.loop-block.sums c.sums_in-more.result _ long c.loop-block.invariant.0 c.sums_in-more.ensures.sums refl refl refl, omega (arith, c.loop-block.invariant.1, c.sums_in-more.ensures.few))

pub returns : goal.returns
returns c =
    let column = c.args.known.now in
    let rows = widening_rows c.args.end column c.args.may.now c.args.must.now in
    let same = widening_long c.args.end column c.args.may.now c.args.must.now (c.requires.must ∙ sym c.requires.may) in
    let long : length rows ≡ rows_of_column column = same ∙ c.requires.may in
    sums_all column rows (512 * c.loop-block.block) c.loop-block.sums long (omega (arith, same)) c.loop-block.invariant.0
