use Rattle.shard_bounds.proofs.AverageOrders.{one_average_is_all}
use Rattle.shard_bounds.proofs.laws.one_average_is_all.Goals as goal

pub returns : goal.returns
returns c = one_average_is_all
