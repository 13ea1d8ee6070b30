use Rattle.shard_bounds.proofs.AverageOrders.{order_of_averages_is_free}
use Rattle.shard_bounds.proofs.laws.order_of_averages_is_free.Goals as goal

pub returns : goal.returns
returns c = order_of_averages_is_free
