use Rattle.std.proofs.Common.{◌≡◌, drop, map}
use Rattle.std.specs.List.{list_all}
use Rattle.query_model.specs.Bounds.{fractions_of}
use Rattle.shard_bounds.specs.Averages.{is_exact}
use Rattle.shard_bounds.proofs.averages.are_exact.Given as goal

abbrev pub invariant-loop-shard : goal.invariant-loop-shard
invariant-loop-shard l = list_all is_exact (map fractions_of (drop l.shard-index l.shards)) ≡ list_all is_exact (map fractions_of l.shards)
