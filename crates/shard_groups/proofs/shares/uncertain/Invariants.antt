use Rattle.std.proofs.Common.{◌≡◌, ◌≤◌, drop, length, map}
use Rattle.shard_groups.specs.Groups.{bound_at, cells_within, uncertain}
use Rattle.shard_groups.proofs.shares.uncertain.Given as goal

abbrev pub invariant-loop-i : goal.invariant-loop-i
invariant-loop-i l = (l.bound ≡ uncertain l.kind (map (bound_at l.item) (cells_within l.line (drop l.i l.cells)))) × (l.i ≤ length l.cells)

abbrev pub decreases-loop-i : goal.decreases-loop-i
decreases-loop-i l = l.i
