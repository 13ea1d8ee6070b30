use Rattle.shard_bounds.proofs.Shards.{shards_become_exact}
use Rattle.shard_bounds.proofs.laws.shards_become_exact.Goals as goal

pub returns : goal.returns
returns c = shards_become_exact
