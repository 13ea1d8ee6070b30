use Rattle.part_groups.proofs.WholeLaws.{groups_tell}
use Rattle.part_groups.proofs.laws.groups_tell.Goals as goal

pub returns : goal.returns
returns c = groups_tell c.lines_tell.ensures
