use Rattle.part_groups.proofs.Overall.{whole_is_combined}
use Rattle.part_groups.proofs.laws.whole_is_combined.Goals as goal

pub returns : goal.returns
returns c = whole_is_combined c.lines_are_found.ensures
