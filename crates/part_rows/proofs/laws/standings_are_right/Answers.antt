use Rattle.part_rows.proofs.Right.{standings_are_right}
use Rattle.part_rows.proofs.laws.standings_are_right.Goals as goal

pub returns : goal.returns
returns c = standings_are_right
