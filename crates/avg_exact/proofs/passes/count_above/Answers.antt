use Rattle.std.proofs.Common.{◌+◌, ◌<◌, subst, sym, arith}
use Rattle.avg_exact.proofs.RowPasses.{HasTally, IsSmallTally, fits_row, small_with_row, tally_goes_on}
use Rattle.avg_exact.proofs.passes.count_above.Goals as goal

pub with_row-tally-requires : goal.with_row-tally-requires
with_row-tally-requires c =
    let there : c.loop-row.row < c.args.engine.now.frame.rows = omega (arith, c.loop-row-test.true, c.rows-row-end.ensures) in
    fits_row c.args.engine.now c.args.item c.loop-row.row c.args.over c.value_at.result c.loop-row.tally c.requires.averaged there c.requires.small c.value_at.ensures.small c.loop-row.invariant.small

pub loop-row-preserved : goal.loop-row-preserved
loop-row-preserved c =
    let stage = c.args.engine.now in
    let r = c.loop-row.row in
    let there : r < stage.frame.rows = omega (arith, c.loop-row-test.true, c.rows-row-end.ensures) in
    record {
      whole = subst (HasTally stage c.args.item c.args.end c.args.over (r + 1)) (sym c.with_row-tally.ensures)
          (tally_goes_on stage c.args.item c.args.end c.args.over r c.value_at.result c.loop-row.tally there c.value_at.ensures.value c.loop-row.invariant.whole);
      small = subst (IsSmallTally stage c.args.item (r + 1)) (sym c.with_row-tally.ensures)
          (small_with_row stage c.args.item r c.args.over c.value_at.result c.loop-row.tally c.value_at.ensures.small c.loop-row.invariant.small);
    }
