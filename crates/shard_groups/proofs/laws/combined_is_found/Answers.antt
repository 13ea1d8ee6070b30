use Rattle.shard_groups.proofs.OneOrder.{combined_is_found}
use Rattle.shard_groups.proofs.laws.combined_is_found.Goals as goal

pub returns : goal.returns
returns c = combined_is_found
