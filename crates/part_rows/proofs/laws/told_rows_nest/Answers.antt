use Rattle.part_rows.proofs.ToldLater.{told_rows_nest}
use Rattle.part_rows.proofs.laws.told_rows_nest.Goals as goal

pub returns : goal.returns
returns c = told_rows_nest
