use Rattle.shard_groups.proofs.AverageLines.{lines_report_averages}
use Rattle.shard_groups.proofs.laws.lines_report_averages.Goals as goal

pub returns : goal.returns
returns c = lines_report_averages
