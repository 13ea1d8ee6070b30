use Rattle.part_rows.proofs.Joins.{reports_join}
use Rattle.part_rows.proofs.laws.reports_join.Goals as goal

pub returns : goal.returns
returns c = reports_join
