use Rattle.report_laws.proofs.Rows.{first_rows_shown}
use Rattle.report_laws.proofs.laws.first_rows_are_shown.Goals as goal

pub returns : goal.returns
returns c = first_rows_shown
