use Rattle.part_rows.proofs.Nesting.{later_reports_join}
use Rattle.part_rows.proofs.laws.later_reports_join.Goals as goal

pub returns : goal.returns
returns c = later_reports_join
