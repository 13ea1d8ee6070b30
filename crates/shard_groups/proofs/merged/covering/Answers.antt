use Rattle.std.proofs.Common.{◌≡◌, get_or}
use Rattle.shard_groups.proofs.Narrow.{covered_at}
use Rattle.shard_groups.proofs.merged.covering.Goals as goal

pub returns-then-related : goal.returns-then-related
returns-then-related c =
    let x = c.as_slice.result.now in
    let is : x ≡ get_or c.args.lines.now c.loop-at.at x = cc in
    covered_at c.args.cell.now c.args.lines.now c.loop-at.at x c.related.result c.loop-at-test.true is c.related.ensures c.if-related.true
