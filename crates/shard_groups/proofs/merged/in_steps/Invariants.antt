use Rattle.std.proofs.Common.{◌≡◌, ◌≤◌, ◌-◌, drop, length}
use Rattle.shard_groups.specs.Steps.{in_steps}
use Rattle.shard_groups.proofs.merged.in_steps.Given as goal

abbrev pub invariant-loop-next : goal.invariant-loop-next
invariant-loop-next l = (in_steps (drop (l.next - 1) l.lines) ≡ in_steps l.lines) × (1 ≤ l.next)

abbrev pub decreases-loop-next : goal.decreases-loop-next
decreases-loop-next l = length l.lines - l.next
