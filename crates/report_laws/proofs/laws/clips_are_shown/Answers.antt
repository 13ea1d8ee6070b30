use Rattle.report_laws.proofs.Shown.{clips_shown}
use Rattle.report_laws.proofs.laws.clips_are_shown.Goals as goal

pub returns : goal.returns
returns c = clips_shown
