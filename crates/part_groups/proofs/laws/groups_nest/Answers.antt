use Rattle.part_groups.proofs.WholeLaws.{groups_nest}
use Rattle.part_groups.proofs.laws.groups_nest.Goals as goal

pub returns : goal.returns
returns c = groups_nest c.lines_nest.ensures
