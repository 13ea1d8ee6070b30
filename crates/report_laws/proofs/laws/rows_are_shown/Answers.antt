use Rattle.report_laws.proofs.Shown.{rows_shown}
use Rattle.report_laws.proofs.laws.rows_are_shown.Goals as goal

pub returns : goal.returns
returns c = rows_shown
