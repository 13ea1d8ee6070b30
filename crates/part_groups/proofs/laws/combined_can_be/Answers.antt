use Rattle.part_groups.proofs.WholeFaults.{combined_can_be}
use Rattle.part_groups.proofs.laws.combined_can_be.Goals as goal

pub returns : goal.returns
returns c = combined_can_be c.lines_are_found.ensures c.combined_is_whole.ensures
