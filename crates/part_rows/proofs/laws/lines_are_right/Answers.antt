use Rattle.part_rows.proofs.Told.{lines_are_right}
use Rattle.part_rows.proofs.laws.lines_are_right.Goals as goal

pub returns : goal.returns
returns c = lines_are_right
