use Rattle.shard_bounds.proofs.Following.{averages_follow}
use Rattle.shard_bounds.proofs.laws.averages_follow.Goals as goal

pub returns : goal.returns
returns c = averages_follow
