use Rattle.shard_groups.proofs.SameAverages.{averages_are_one}
use Rattle.shard_groups.proofs.laws.averages_are_one.Goals as goal

pub returns : goal.returns
returns c = averages_are_one
