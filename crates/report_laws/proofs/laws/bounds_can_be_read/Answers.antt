use Rattle.report_laws.proofs.Shown.{bounds_can}
use Rattle.report_laws.proofs.laws.bounds_can_be_read.Goals as goal

pub returns : goal.returns
returns c = bounds_can
