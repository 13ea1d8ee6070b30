use Rattle.shard_groups.proofs.ExactAverages.{lines_tell_averages}
use Rattle.shard_groups.proofs.laws.lines_tell_averages.Goals as goal

pub returns : goal.returns
returns c = lines_tell_averages
