use Rattle.shard_bounds.proofs.ShardAverages.{shards_nest_averages}
use Rattle.shard_bounds.proofs.laws.shards_nest_averages.Goals as goal

pub returns : goal.returns
returns c = shards_nest_averages
