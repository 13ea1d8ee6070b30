use Rattle.std.proofs.Common.{◌≡◌, ◌++◌, drop}
use Rattle.shard_groups.specs.Groups.{shares}
use Rattle.shard_groups.proofs.combined.shares.Given as goal

abbrev pub invariant-loop-shard : goal.invariant-loop-shard
invariant-loop-shard l = l.bounds.items ++ shares l.kind l.item l.line (drop l.shard l.shards) ≡ shares l.kind l.item l.line l.shards
