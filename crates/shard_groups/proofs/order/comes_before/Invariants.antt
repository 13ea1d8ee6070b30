use Rattle.std.proofs.Common.{◌≡◌, drop}
use Rattle.shard_groups.specs.Keys.{comes_before}
use Rattle.shard_groups.proofs.order.comes_before.Given as goal

abbrev pub invariant-loop-i : goal.invariant-loop-i
invariant-loop-i l = comes_before (drop l.i l.a) (drop l.i l.b) ≡ comes_before l.a l.b
