use Rattle.std.proofs.Common.{◌≡◌, drop}
use Rattle.std.specs.List.{list_any}
use Rattle.shard_bounds.specs.Ends.{holds_of}
use Rattle.shard_bounds.proofs.ends.some_shard.Given as goal

abbrev pub invariant-loop-shard : goal.invariant-loop-shard
invariant-loop-shard l = list_any (holds_of l.test) (drop l.shard-index l.shards) ≡ list_any (holds_of l.test) l.shards
