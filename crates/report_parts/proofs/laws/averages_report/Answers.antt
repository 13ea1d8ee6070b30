use Rattle.report_parts.proofs.Certain.{averages}
use Rattle.report_parts.proofs.laws.averages_report.Goals as goal

pub returns : goal.returns
returns c = averages c.combinations_report_averages.ensures
