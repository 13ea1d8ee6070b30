use Rattle.part_groups.proofs.WholeLaws.{groups_tell_keys}
use Rattle.part_groups.proofs.laws.groups_tell_keys.Goals as goal

pub returns : goal.returns
returns c = groups_tell_keys c.lines_tell_keys.ensures
