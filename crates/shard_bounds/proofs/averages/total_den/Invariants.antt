use Rattle.std.proofs.Common.{◌≡◌, ◌+◌, ◌<◌, ◌^◌, drop, map}
use Rattle.query_model.specs.Bounds.{fractions_of}
use Rattle.shard_bounds.specs.Averages.{added_up, sums_of}
use Rattle.shard_bounds.proofs.averages.total_den.Given as goal

abbrev pub invariant-loop-shard : goal.invariant-loop-shard
invariant-loop-shard l =
    (l.total + (added_up (sums_of (map fractions_of (drop l.shard-index l.shards)))).den ≡ (added_up (sums_of (map fractions_of l.shards))).den)
    × (l.total < 2 ^ 64)
