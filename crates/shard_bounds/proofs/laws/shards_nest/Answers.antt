use Rattle.shard_bounds.proofs.Shards.{shards_nest}
use Rattle.shard_bounds.proofs.laws.shards_nest.Goals as goal

pub returns : goal.returns
returns c = shards_nest
