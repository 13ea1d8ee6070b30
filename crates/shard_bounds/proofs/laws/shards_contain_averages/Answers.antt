use Rattle.shard_bounds.proofs.ShardAverages.{shards_contain_averages}
use Rattle.shard_bounds.proofs.laws.shards_contain_averages.Goals as goal

pub returns : goal.returns
returns c = shards_contain_averages
