use Rattle.shard_bounds.proofs.AverageNests.{averages_nest}
use Rattle.shard_bounds.proofs.laws.averages_nest.Goals as goal

pub returns : goal.returns
returns c = averages_nest
