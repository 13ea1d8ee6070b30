use Rattle.report_laws.proofs.Keys.{keys_shown}
use Rattle.report_laws.proofs.laws.keys_are_shown.Goals as goal

pub returns : goal.returns
returns c = keys_shown
