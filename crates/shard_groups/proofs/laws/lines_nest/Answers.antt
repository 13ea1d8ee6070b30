use Rattle.shard_groups.proofs.Later.{lines_nest}
use Rattle.shard_groups.proofs.laws.lines_nest.Goals as goal

pub returns : goal.returns
returns c = lines_nest
