use Rattle.part_groups.proofs.WholeLaws.{groups_nest_averages}
use Rattle.part_groups.proofs.laws.groups_nest_averages.Goals as goal

pub returns : goal.returns
returns c = groups_nest_averages c.lines_nest_averages.ensures
