use Rattle.shard_bounds.proofs.DividedSums.{sums_give_averages}
use Rattle.shard_bounds.proofs.laws.sums_give_averages.Goals as goal

pub returns : goal.returns
returns c = sums_give_averages
