use Rattle.part_groups.proofs.WholeLaws.{groups_tell_averages}
use Rattle.part_groups.proofs.laws.groups_tell_averages.Goals as goal

pub returns : goal.returns
returns c = groups_tell_averages c.lines_tell_averages.ensures
