use Rattle.report_laws.proofs.Shown.{bounds_shown}
use Rattle.report_laws.proofs.laws.bounds_are_shown.Goals as goal

pub returns : goal.returns
returns c = bounds_shown
