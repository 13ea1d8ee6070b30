use Rattle.shard_bounds.proofs.Hulls.{hulls_contain}
use Rattle.shard_bounds.proofs.laws.hulls_contain.Goals as goal

pub returns : goal.returns
returns c = hulls_contain
