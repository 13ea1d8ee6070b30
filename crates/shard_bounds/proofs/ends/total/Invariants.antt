use Rattle.std.proofs.Common.{◌≡◌, ◌≤◌, ◌+ℤ◌, drop, nat_abs}
use Rattle.query_model.specs.Answers.{total}
use Rattle.shard_bounds.specs.Ends.{ends_of}
use Rattle.shard_bounds.specs.Wide.{wide}
use Rattle.shard_bounds.proofs.ends.total.Given as goal

abbrev pub invariant-loop-shard : goal.invariant-loop-shard
invariant-loop-shard l =
    (wide l.sum.turns l.sum.rest +ℤ total (ends_of l.end (drop l.shard-index l.shards)) ≡ total (ends_of l.end l.shards))
    × (nat_abs l.sum.turns ≤ l.shard-index)
