use Rattle.shard_bounds.proofs.Hulls.{hulls_nest}
use Rattle.shard_bounds.proofs.laws.hulls_nest.Goals as goal

pub returns : goal.returns
returns c = hulls_nest
