use Rattle.part_rows.proofs.Told.{lines_become_exact}
use Rattle.part_rows.proofs.laws.lines_become_exact.Goals as goal

pub returns : goal.returns
returns c = lines_become_exact
