use Rattle.std.proofs.Common.{arith}
use Rattle.shard_groups.proofs.Narrow.{steps_done}
use Rattle.shard_groups.proofs.merged.in_steps.Goals as goal

pub returns : goal.returns
returns c = steps_done c.args.lines.now c.loop-next.next (omega arith) c.loop-next.invariant.0
