use Rattle.std.proofs.Common.{◌≡◌, ◌++◌, drop, map}
use Rattle.query_model.specs.Bounds.{fractions_of}
use Rattle.shard_groups.specs.Groups.{average_share}
use Rattle.shard_groups.proofs.averages.average_shares.Given as goal

abbrev pub invariant-loop-shard : goal.invariant-loop-shard
invariant-loop-shard l =
    map fractions_of l.bounds.items ++ map (average_share l.item l.line) (drop l.shard l.shards) ≡ map (average_share l.item l.line) l.shards
