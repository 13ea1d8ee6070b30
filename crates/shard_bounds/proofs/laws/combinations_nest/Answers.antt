use Rattle.shard_bounds.proofs.Nests.{combinations_nest}
use Rattle.shard_bounds.proofs.laws.combinations_nest.Goals as goal

pub returns : goal.returns
returns c = combinations_nest
