use Rattle.shard_bounds.proofs.ListAverages.{lists_report_averages}
use Rattle.shard_bounds.proofs.laws.lists_report_averages.Goals as goal

pub returns : goal.returns
returns c = lists_report_averages
