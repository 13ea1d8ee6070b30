use Rattle.shard_bounds.proofs.Unions.{nothing_is_lost}
use Rattle.shard_bounds.proofs.laws.nothing_is_lost.Goals as goal

pub returns : goal.returns
returns c = nothing_is_lost
