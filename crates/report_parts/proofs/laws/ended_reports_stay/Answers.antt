use Rattle.report_parts.proofs.Telling.{ended_stays}
use Rattle.report_parts.proofs.laws.ended_reports_stay.Goals as goal

pub returns : goal.returns
returns c = ended_stays
