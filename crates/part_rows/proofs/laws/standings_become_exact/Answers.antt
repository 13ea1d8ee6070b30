use Rattle.part_rows.proofs.Exact.{standings_become_exact}
use Rattle.part_rows.proofs.laws.standings_become_exact.Goals as goal

pub returns : goal.returns
returns c = standings_become_exact
