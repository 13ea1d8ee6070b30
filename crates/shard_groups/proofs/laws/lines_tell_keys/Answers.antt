use Rattle.shard_groups.proofs.Present.{lines_tell_keys}
use Rattle.shard_groups.proofs.laws.lines_tell_keys.Goals as goal

pub returns : goal.returns
returns c = lines_tell_keys
