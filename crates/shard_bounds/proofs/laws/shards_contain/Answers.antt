use Rattle.shard_bounds.proofs.Shards.{shards_contain}
use Rattle.shard_bounds.proofs.laws.shards_contain.Goals as goal

pub returns : goal.returns
returns c = shards_contain
