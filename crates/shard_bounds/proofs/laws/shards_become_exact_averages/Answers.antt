use Rattle.shard_bounds.proofs.ShardAverages.{shards_become_exact_averages}
use Rattle.shard_bounds.proofs.laws.shards_become_exact_averages.Goals as goal

pub returns : goal.returns
returns c = shards_become_exact_averages
