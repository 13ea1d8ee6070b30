use Rattle.shard_bounds.proofs.Exact.{combinations_tell}
use Rattle.shard_bounds.proofs.laws.combinations_tell.Goals as goal

pub returns : goal.returns
returns c = combinations_tell
