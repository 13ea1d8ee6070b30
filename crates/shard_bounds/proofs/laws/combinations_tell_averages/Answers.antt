use Rattle.shard_bounds.proofs.ExactAverages.{combinations_tell_averages}
use Rattle.shard_bounds.proofs.laws.combinations_tell_averages.Goals as goal

pub returns : goal.returns
returns c = combinations_tell_averages
