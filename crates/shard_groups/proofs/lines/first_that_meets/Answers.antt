use Rattle.std.proofs.Common.{◌≡◌, get_or}
use Rattle.shard_groups.proofs.LineSets.{apart_at}
use Rattle.shard_groups.proofs.lines.first_that_meets.Goals as goal

pub loop-at-preserved : goal.loop-at-preserved
loop-at-preserved c =
    let x = c.as_slice.result.now in
    let is : x ≡ get_or c.args.lines.now c.loop-at.at x = cc in
    apart_at c.args.line.now c.args.lines.now c.loop-at.at x c.related.result c.loop-at-test.true is c.related.ensures c.if-related.false c.loop-at.invariant
