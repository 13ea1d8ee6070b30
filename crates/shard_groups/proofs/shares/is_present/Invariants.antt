use Rattle.std.proofs.Common.{◌≡◌, drop}
use Rattle.shard_groups.specs.Groups.{is_present}
use Rattle.shard_groups.proofs.shares.is_present.Given as goal

abbrev pub invariant-loop-shard : goal.invariant-loop-shard
invariant-loop-shard l = is_present l.line (drop l.shard l.shards) ≡ is_present l.line l.shards
