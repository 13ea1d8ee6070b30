use Rattle.shard_bounds.proofs.Contains.{combinations_contain}
use Rattle.shard_bounds.proofs.laws.combinations_contain.Goals as goal

pub returns : goal.returns
returns c = combinations_contain
