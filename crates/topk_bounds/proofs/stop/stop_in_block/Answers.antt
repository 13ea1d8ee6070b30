use Rattle.std.proofs.Common.{◌*◌, arith}
use Rattle.topk_bounds.proofs.Stopping.{stopped, stops_later}
use Rattle.topk_bounds.proofs.stop.stop_in_block.Goals as goal

pub returns-then-wanted-seen-clause-stops : goal.returns-then-wanted-seen-clause-stops
returns-then-wanted-seen-clause-stops c =
    stopped c.args.wanted c.args.counted.now c.args.level.now (512 * c.args.block) c.args.to c.clear_block.new.level (omega (arith, c.requires.seen, c.if-wanted-seen.true)) c.clear_block.ensures.rows c.requires.to c.clear_block.ensures.clears

pub returns-else-wanted-next-clause-stops : goal.returns-else-wanted-next-clause-stops
returns-else-wanted-next-clause-stops c =
    stops_later c.args.wanted c.args.counted.now c.args.level.now (512 * c.args.block) c.args.to (omega (arith, c.seen_after-next.ensures.seen, c.if-wanted-next.false))
