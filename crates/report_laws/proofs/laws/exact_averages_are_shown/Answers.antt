use Rattle.report_laws.proofs.Shown.{exact_shown}
use Rattle.report_laws.proofs.laws.exact_averages_are_shown.Goals as goal

pub returns : goal.returns
returns c = exact_shown
