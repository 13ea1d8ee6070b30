use Rattle.shard_bounds.proofs.ExactAverages.{combinations_look_exact}
use Rattle.shard_bounds.proofs.laws.combinations_look_exact.Goals as goal

pub returns : goal.returns
returns c = combinations_look_exact
