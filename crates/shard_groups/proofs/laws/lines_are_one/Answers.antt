use Rattle.shard_groups.proofs.Reorders.{lines_are_one}
use Rattle.shard_groups.proofs.laws.lines_are_one.Goals as goal

pub returns : goal.returns
returns c = lines_are_one
