use Rattle.part_rows.proofs.Nesting.{reports_become_exact}
use Rattle.part_rows.proofs.laws.reports_become_exact.Goals as goal

pub returns : goal.returns
returns c = reports_become_exact c.standings_become_exact.ensures c.ranges_become_exact.ensures
