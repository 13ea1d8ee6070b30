use Rattle.shard_groups.proofs.NestedAverages.{lines_nest_averages}
use Rattle.shard_groups.proofs.laws.lines_nest_averages.Goals as goal

pub returns : goal.returns
returns c = lines_nest_averages
