use Rattle.report_laws.proofs.Shown.{averages_shown}
use Rattle.report_laws.proofs.laws.averages_are_shown.Goals as goal

pub returns : goal.returns
returns c = averages_shown
