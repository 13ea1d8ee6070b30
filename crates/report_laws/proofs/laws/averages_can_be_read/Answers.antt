use Rattle.report_laws.proofs.Shown.{averages_can}
use Rattle.report_laws.proofs.laws.averages_can_be_read.Goals as goal

pub returns : goal.returns
returns c = averages_can
