use Rattle.part_rows.proofs.Joined.{joined_lines_nest}
use Rattle.part_rows.proofs.laws.joined_lines_nest.Goals as goal

pub returns : goal.returns
returns c = joined_lines_nest
