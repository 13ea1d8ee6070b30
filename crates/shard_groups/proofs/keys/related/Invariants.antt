use Rattle.std.proofs.Common.{◌≡◌, drop, length}
use Rattle.shard_groups.specs.Keys.{related}
use Rattle.shard_groups.proofs.keys.related.Given as goal

abbrev pub invariant-loop-i : goal.invariant-loop-i
invariant-loop-i l = (related l.relation (drop l.i l.a) (drop l.i l.b) ≡ related l.relation l.a l.b) × (length l.a ≡ length l.b)
