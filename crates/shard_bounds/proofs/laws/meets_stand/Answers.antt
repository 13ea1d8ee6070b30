use Rattle.shard_bounds.proofs.Meets.{meets_stand}
use Rattle.shard_bounds.proofs.laws.meets_stand.Goals as goal

pub returns : goal.returns
returns c = meets_stand
