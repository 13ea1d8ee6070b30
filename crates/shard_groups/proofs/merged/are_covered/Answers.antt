use Rattle.std.proofs.Common.{◌≡◌, get_or}
use Rattle.shard_groups.proofs.Narrow.{covered_more}
use Rattle.shard_groups.proofs.merged.are_covered.Goals as goal

pub loop-cell-preserved : goal.loop-cell-preserved
loop-cell-preserved c =
    let cell = c.cell-item.result in
    let is : cell ≡ get_or c.args.cells.now c.loop-cell.cell-index cell = cc in
    let own : c.as_slice.result.now ≡ cell.keys = cc in
    covered_more c.args.cells.now c.loop-cell.cell-index cell c.as_slice.result.now c.args.lines.now c.loop-cell-test.true is own c.in-Some.ensures
    c.loop-cell.invariant
