use Rattle.part_rows.proofs.Later.{standings_nest}
use Rattle.part_rows.proofs.laws.standings_nest.Goals as goal

pub returns : goal.returns
returns c = standings_nest
