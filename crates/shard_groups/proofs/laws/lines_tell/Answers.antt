use Rattle.shard_groups.proofs.Exact.{lines_tell}
use Rattle.shard_groups.proofs.laws.lines_tell.Goals as goal

pub returns : goal.returns
returns c = lines_tell
