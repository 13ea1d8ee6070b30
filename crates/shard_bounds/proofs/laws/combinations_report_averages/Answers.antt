use Rattle.shard_bounds.proofs.ExactAverages.{combinations_report_averages}
use Rattle.shard_bounds.proofs.laws.combinations_report_averages.Goals as goal

pub returns : goal.returns
returns c = combinations_report_averages
