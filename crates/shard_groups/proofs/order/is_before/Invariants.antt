use Rattle.std.proofs.Common.{◌≡◌, drop}
use Rattle.shard_groups.specs.Steps.{is_before}
use Rattle.shard_groups.proofs.order.is_before.Given as goal

abbrev pub invariant-loop-i : goal.invariant-loop-i
invariant-loop-i l = is_before (drop l.i l.a) (drop l.i l.b) ≡ is_before l.a l.b
