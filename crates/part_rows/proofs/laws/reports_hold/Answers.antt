use Rattle.part_rows.proofs.Reports.{reports_hold}
use Rattle.part_rows.proofs.laws.reports_hold.Goals as goal

pub returns : goal.returns
returns c = reports_hold c.standings_are_right.ensures c.completions_are_selections.ensures
