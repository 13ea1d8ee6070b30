use Rattle.shard_groups.proofs.One.{one_shard_is_all}
use Rattle.shard_groups.proofs.laws.one_shard_is_all.Goals as goal

pub returns : goal.returns
returns c = one_shard_is_all
