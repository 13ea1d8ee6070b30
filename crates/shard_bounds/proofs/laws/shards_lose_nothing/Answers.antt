use Rattle.shard_bounds.proofs.Shards.{shards_lose_nothing}
use Rattle.shard_bounds.proofs.laws.shards_lose_nothing.Goals as goal

pub returns : goal.returns
returns c = shards_lose_nothing
