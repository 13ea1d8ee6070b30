use Rattle.shard_groups.proofs.Reorders.{order_is_free}
use Rattle.shard_groups.proofs.laws.order_is_free.Goals as goal

pub returns : goal.returns
returns c = order_is_free
