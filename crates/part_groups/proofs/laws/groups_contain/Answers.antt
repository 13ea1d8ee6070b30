use Rattle.part_groups.proofs.WholeLaws.{groups_contain}
use Rattle.part_groups.proofs.laws.groups_contain.Goals as goal

pub returns : goal.returns
returns c = groups_contain c.lines_contain.ensures
