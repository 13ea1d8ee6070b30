use Rattle.std.proofs.Common.{◌≡◌, ◌++◌, drop, length}
use Rattle.shard_groups.specs.Keys.{hull}
use Rattle.shard_groups.proofs.keys.hull.Given as goal

abbrev pub invariant-loop-i : goal.invariant-loop-i
invariant-loop-i l = (l.spans.items ++ hull (drop l.i l.a) (drop l.i l.b) ≡ hull l.a l.b) × (length l.a ≡ length l.b)
