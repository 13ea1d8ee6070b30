use Rattle.std.proofs.Common.{◌≡◌, ◌≤◌, ◌<◌, ◌*◌, ℕ, ℤ, ◌*ℤ◌, [], length, ap, sym, subst, ◌∙◌, arith}
use Rattle.aggregates.specs.Selections.{block_of}
use Rattle.product_sums.specs.KeptProducts.{AreBlockSums, whole_number}
use Rattle.product_sums.specs.Products.{CanMultiply}
use Rattle.product_sums.proofs.DigitSums.{long_block}
use Rattle.product_sums.proofs.MovedSums.{beside, can_move, moved_begun, moved_done, moved_more, unmoved}
use Rattle.product_sums.proofs.Residues.{wrapped}
use Rattle.product_sums.proofs.moved_sums.move_sums.Goals as goal

pub loop-block-init : goal.loop-block-init
loop-block-init c = moved_begun c.args.columns.now c.args.old.now c.args.new.now c.args.pair c.args.sums c.requires.sums

pub sums_in_block-came-requires-clause-rows : goal.sums_in_block-came-requires-clause-rows
sums_in_block-came-requires-clause-rows c =
    let table = c.args.columns.now in
    let block = c.loop-block.block in
    let within : 512 * block < table.frame.rows = omega (arith, c.rows.ensures, c.requires.rows, c.loop-block-test.true, c.div_ceil-block-end.ensures) in
    let is = c.and_not.ensures ∙ ap (λ l. beside l c.block-before.result) c.block-after.ensures ∙ ap (beside (block_of block c.args.new.now)) c.block-before.ensures in
    subst (λ r. CanMultiply table block r []) (sym is) (can_move table c.rows-rows.ensures.known c.args.new.now c.args.old.now block c.requires.rows c.requires.sums.sums_are.rows within)

pub sums_in_block-left-requires-clause-rows : goal.sums_in_block-left-requires-clause-rows
sums_in_block-left-requires-clause-rows c =
    let table = c.args.columns.now in
    let block = c.loop-block.block in
    let within : 512 * block < table.frame.rows = omega (arith, c.rows.ensures, c.requires.rows, c.loop-block-test.true, c.div_ceil-block-end.ensures) in
    let is = c.and_not-in-loop-block.ensures ∙ ap (λ l. beside l c.block-after.result) c.block-before.ensures ∙ ap (beside (block_of block c.args.old.now)) c.block-after.ensures in
    subst (λ r. CanMultiply table block r []) (sym is) (can_move table c.rows-rows.ensures.known c.args.old.now c.args.new.now block c.requires.sums.sums_are.rows c.requires.rows within)

pub and_not-requires : goal.and_not-requires
and_not-requires c =
    let rows = c.args.columns.now.frame.rows in
    ap length c.block-before.ensures ∙ long_block c.args.old.now c.loop-block.block rows c.requires.sums.sums_are.rows
    ∙ sym (ap length c.block-after.ensures ∙ long_block c.args.new.now c.loop-block.block rows c.requires.rows)

pub and_not-requires-in-loop-block : goal.and_not-requires-in-loop-block
and_not-requires-in-loop-block c =
    let rows = c.args.columns.now.frame.rows in
    ap length c.block-after.ensures ∙ long_block c.args.new.now c.loop-block.block rows c.requires.rows
    ∙ sym (ap length c.block-before.ensures ∙ long_block c.args.old.now c.loop-block.block rows c.requires.sums.sums_are.rows)

pub loop-block-preserved : goal.loop-block-preserved
loop-block-preserved c =
    let table = c.args.columns.now in
    let pair = c.args.pair in
    let old = c.args.old.now in
    let new = c.args.new.now in
    let block = c.loop-block.block in
    let f : ℕ → ℤ = whole_number table pair.first in
    let g : ℕ → ℤ = whole_number table pair.second in
    let same : length new ≡ length old = c.requires.rows ∙ sym c.requires.sums.sums_are.rows in
    let within : 512 * block ≤ length old = omega (arith, c.rows.ensures, same, c.loop-block-test.true, c.div_ceil-block-end.ensures) in
    let rows_came = c.and_not.ensures ∙ ap (λ l. beside l c.block-before.result) c.block-after.ensures ∙ ap (beside (block_of block new)) c.block-before.ensures in
    let rows_left = c.and_not-in-loop-block.ensures ∙ ap (λ l. beside l c.block-after.result) c.block-before.ensures ∙ ap (beside (block_of block old)) c.block-after.ensures in
    let came : AreBlockSums table block (beside (block_of block new) (block_of block old)) pair c.sums_in_block-came.result = subst (λ r. AreBlockSums table block r pair c.sums_in_block-came.result) rows_came c.sums_in_block-came.ensures in
    let left : AreBlockSums table block (beside (block_of block old) (block_of block new)) pair c.sums_in_block-left.result = subst (λ r. AreBlockSums table block r pair c.sums_in_block-left.result) rows_left c.sums_in_block-left.ensures in
    let are = c.loop-block.invariant in
    let now = c.moved-sums.ensures in
    record {
      first_read = now.first_read ∙ are.first_read;
      second_read = now.second_read ∙ are.second_read;
      first = now.first _ _ _ are.first came.first left.first ∙ ap wrapped (moved_more old new block f same within);
      second = now.second _ _ _ are.second came.second left.second ∙ ap wrapped (moved_more old new block g same within);
      both = now.both _ _ _ are.both came.both left.both ∙ ap wrapped (moved_more old new block (λ r. f r *ℤ g r) same within);
    }

pub returns : goal.returns
returns c =
    let past : length c.args.new.now ≤ 512 * c.loop-block.block = omega (arith, c.rows.ensures, c.loop-block-test.false, c.div_ceil-block-end.ensures) in
    moved_done c.args.columns.now c.args.old.now c.args.new.now c.loop-block.block c.args.pair c.loop-block.sums c.requires.sums.sums_are.rows c.requires.rows past c.loop-block.invariant

pub returns-then-not-has_digits-2 : goal.returns-then-not-has_digits-2
returns-then-not-has_digits-2 c = unmoved c.args.columns.now c.rows-rows.ensures.known c.args.old.now c.args.new.now c.args.pair c.args.sums c.requires.pair c.requires.rows (omega arith) (omega arith) c.requires.sums
