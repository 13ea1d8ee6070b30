use Rattle.std.proofs.Common.{◌≤◌, drop, length}
use Rattle.shard_groups.specs.Groups.{all_keys}
use Rattle.shard_groups.specs.Steps.{AreNarrow}
use Rattle.shard_groups.proofs.merged.lines_in_order.Given as goal

abbrev pub invariant-loop-i : goal.invariant-loop-i
invariant-loop-i l = AreNarrow (all_keys (drop l.i l.shards)) l.lines.items × (l.i ≤ length l.shards)

abbrev pub decreases-loop-i : goal.decreases-loop-i
decreases-loop-i l = l.i
