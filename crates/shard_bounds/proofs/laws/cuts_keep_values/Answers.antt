use Rattle.shard_bounds.proofs.Shards.{cuts_keep_values}
use Rattle.shard_bounds.proofs.laws.cuts_keep_values.Goals as goal

pub returns : goal.returns
returns c = cuts_keep_values
