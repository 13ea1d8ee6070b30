use Rattle.std.proofs.Common.{◌*◌, min, arith, sym}
use Rattle.round_engine.proofs.SortKeys.{all_near, not_all_near}
use Rattle.round_engine.proofs.ranking.Ranking.keys_are_near.Goals as goal

pub returns-then-not-are_near_in_block : goal.returns-then-not-are_near_in_block
returns-then-not-are_near_in_block c =
    sym (not_all_near c.args.width c.args.columns.now c.args.self.now (c.are_near_in_block.ensures.far c.if-not-are_near_in_block.true))

pub returns : goal.returns
returns c =
    let rows = c.args.columns.now.frame.rows in
    sym (all_near c.args.width c.args.columns.now c.args.self.now (min (64 * c.loop-block.block) rows) c.loop-block.invariant
    (omega (arith, c.rows.ensures.rows, c.loop-block-test.false, c.div_ceil-block-end.ensures)))
