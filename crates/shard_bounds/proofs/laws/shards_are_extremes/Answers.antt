use Rattle.shard_bounds.proofs.Shards.{shards_are_extremes}
use Rattle.shard_bounds.proofs.laws.shards_are_extremes.Goals as goal

pub returns : goal.returns
returns c = shards_are_extremes
