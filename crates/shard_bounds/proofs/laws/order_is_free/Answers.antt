use Rattle.shard_bounds.proofs.Orders.{order_is_free}
use Rattle.shard_bounds.proofs.laws.order_is_free.Goals as goal

pub returns : goal.returns
returns c = order_is_free
