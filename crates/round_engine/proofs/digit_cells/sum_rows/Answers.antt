use Rattle.std.proofs.Common.{◌≡◌, ◌+◌, ◌*◌, ◌<◌, min, subst, arith}
use Rattle.kleene_filter.specs.Filters.{is_possible}
use Rattle.known_column.specs.Columns.{count_in_block}
use Rattle.round_engine.specs.CellAnswers.{StandBelow}
use Rattle.round_engine.specs.DigitCells.{AreDigitSums}
use Rattle.round_engine.specs.Engines.{stage_of}
use Rattle.round_engine.proofs.CellPairs.{none_passes, stand_past}
use Rattle.round_engine.proofs.RowPairs.{rows_of_mask}
use Rattle.round_engine.proofs.digit_cells.sum_rows.Goals as goal
use Rattle.round_engine.proofs.digit_cells.sum_rows.Goals.{then-word-ne0+else-not-sum_block, else-word-ne0}

pub word-requires : goal.word-requires
word-requires c = omega (arith, c.loop-number-test.true, c.rows.ensures.rows, c.div_ceil-number-end.ensures, rows_of_mask is_possible c.may.result.now c.args.rows.filter.now.truths c.args.query.now.pred c.args.columns.now c.may.ensures c.requires.judged)

pub loop-number-preserved : goal.loop-number-preserved
loop-number-preserved c =
    let query = c.args.query.now in
    let columns = c.args.columns.now in
    let rows = columns.frame.rows in
    let number = c.loop-number.number in
    let stage = stage_of query columns in
    let item = c.args.item.now in
    let known = c.args.rows.known.now in
    let single = c.args.rows.single.now in
    let before = c.loop-number.invariant in
    let within : 64 * number < rows = omega (arith, c.loop-number-test.true, c.rows.ensures.rows, c.div_ceil-number-end.ensures) in
    elim c.if-word-ne0.branch [
      | then-word-ne0+else-not-sum_block w ↦
          (let end : min (64 * number + 64) rows ≡ min (64 * (number + 1)) rows = omega arith in
          rw w.sums-is (subst (λ n. AreDigitSums stage item known single n w.sum_block.new.sums) end (w.sum_block.ensures.added w.if-not-sum_block.false)))
      | else-word-ne0 w ↦
          (let from : min (64 * number) rows ≡ 64 * number = omega (arith, within) in
          let end : 64 * number + count_in_block number rows ≡ min (64 * (number + 1)) rows = omega (arith, within) in
          rw w.sums-is (record {
            tallies = before.tallies;
            are = before.are;
            stand =
                subst (λ n. StandBelow stage item n before.tallies) end
                (stand_past stage item before.tallies (64 * number) (count_in_block number rows)
                (λ r below. none_passes query item columns c.args.rows.filter.now.truths number r c.may.result.now c.word.result c.requires.judged c.may.ensures c.word.ensures w.if-word-ne0.false below)
                (subst (λ n. StandBelow stage item n before.tallies) from before.stand));
            ends = before.ends;
            certain = before.certain;
          }))
    ]
