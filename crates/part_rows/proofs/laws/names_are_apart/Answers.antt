use Rattle.part_rows.proofs.Whole.{names_are_apart}
use Rattle.part_rows.proofs.laws.names_are_apart.Goals as goal

pub returns : goal.returns
returns c = names_are_apart
