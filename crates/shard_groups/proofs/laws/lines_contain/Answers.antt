use Rattle.shard_groups.proofs.Contains.{lines_contain}
use Rattle.shard_groups.proofs.laws.lines_contain.Goals as goal

pub returns : goal.returns
returns c = lines_contain
