use Rattle.shard_bounds.proofs.Unions.{lists_give_bounds}
use Rattle.shard_bounds.proofs.laws.lists_give_bounds.Goals as goal

pub returns : goal.returns
returns c = lists_give_bounds
