use Rattle.std.proofs.Common.{◌≡◌, ◌≤◌, drop, length}
use Rattle.shard_groups.specs.Lines.{in_order}
use Rattle.shard_groups.proofs.order.in_order.Given as goal

abbrev pub invariant-loop-i : goal.invariant-loop-i
invariant-loop-i l = (l.ordered.items ≡ in_order (drop l.i l.lines)) × (l.i ≤ length l.lines)

abbrev pub decreases-loop-i : goal.decreases-loop-i
decreases-loop-i l = l.i
