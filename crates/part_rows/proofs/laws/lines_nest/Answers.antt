use Rattle.part_rows.proofs.Told.{lines_nest}
use Rattle.part_rows.proofs.laws.lines_nest.Goals as goal

pub returns : goal.returns
returns c = lines_nest
