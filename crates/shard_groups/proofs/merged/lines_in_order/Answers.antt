use Rattle.std.proofs.Common.{arith, refl, ◌≡◌, ◌≤◌, ◌-◌, get_or, length}
use Rattle.shard_groups.proofs.Narrow.{narrow_before}
use Rattle.shard_groups.proofs.merged.lines_in_order.Goals as goal

pub loop-i-preserved : goal.loop-i-preserved
loop-i-preserved c =
    let shards = c.args.shards.now in
    let i = c.loop-i.i in
    let cells = c.as_slice.result.now in
    let is : cells ≡ get_or shards (i - 1) cells = cc in
    let fits : i ≤ length shards = c.loop-i.invariant.1 in
    let end : i - 1 ≤ length shards = omega (arith, fits) in (
      narrow_before shards i cells c.loop-i.lines.items c.loop-i.lines.items c.in_ok-lines.lines.items c.loop-i-test.true fits is refl
          c.loop-i.invariant.0 c.in_ok-lines.ensures,
      end,
    )
