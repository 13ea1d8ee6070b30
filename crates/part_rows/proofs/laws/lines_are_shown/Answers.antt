use Rattle.part_rows.proofs.ReadBack.{lines_are_shown}
use Rattle.part_rows.proofs.laws.lines_are_shown.Goals as goal

pub returns : goal.returns
returns c = lines_are_shown
