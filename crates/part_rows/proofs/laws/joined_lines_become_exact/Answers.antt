use Rattle.part_rows.proofs.Whole.{joined_lines_become_exact}
use Rattle.part_rows.proofs.laws.joined_lines_become_exact.Goals as goal

pub returns : goal.returns
returns c = joined_lines_become_exact
