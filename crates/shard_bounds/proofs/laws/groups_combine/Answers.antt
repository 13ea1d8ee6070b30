use Rattle.shard_bounds.proofs.Unions.{groups_combine}
use Rattle.shard_bounds.proofs.laws.groups_combine.Goals as goal

pub returns : goal.returns
returns c = groups_combine
