use Rattle.std.proofs.Common.{arith}
use Rattle.shard_groups.proofs.Cutting.{cut_done}
use Rattle.shard_groups.proofs.runs.is_cut.Goals as goal

pub returns : goal.returns
returns c =
    cut_done c.args.lines.now c.args.cells.now c.loop-line.line-index c.loop-line.at (omega arith) c.loop-line.invariant.1 c.loop-line.invariant.0
