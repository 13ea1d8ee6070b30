use Rattle.shard_bounds.proofs.Unions.{combined_is_bound}
use Rattle.shard_bounds.proofs.laws.combined_is_bound.Goals as goal

pub returns : goal.returns
returns c = combined_is_bound
