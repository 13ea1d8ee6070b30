use Rattle.shard_groups.proofs.OneOrder.{lines_are_found}
use Rattle.shard_groups.proofs.laws.lines_are_found.Goals as goal

pub returns : goal.returns
returns c = lines_are_found
