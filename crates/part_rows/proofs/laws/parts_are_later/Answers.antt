use Rattle.part_rows.proofs.Whole.{parts_are_later}
use Rattle.part_rows.proofs.laws.parts_are_later.Goals as goal

pub returns : goal.returns
returns c = parts_are_later
