use Rattle.std.proofs.Common.{◌≡◌, ◌≤◌, ◌+ℤ◌, drop, map, nat_abs}
use Rattle.query_model.specs.Bounds.{fractions_of}
use Rattle.shard_bounds.specs.Averages.{added_up, sums_of}
use Rattle.shard_bounds.specs.Wide.{wide}
use Rattle.shard_bounds.proofs.averages.total_num.Given as goal

abbrev pub invariant-loop-shard : goal.invariant-loop-shard
invariant-loop-shard l =
    (wide l.total.turns l.total.rest +ℤ (added_up (sums_of (map fractions_of (drop l.shard-index l.shards)))).num ≡ (added_up (sums_of (map fractions_of l.shards))).num)
    × (nat_abs l.total.turns ≤ l.shard-index)
