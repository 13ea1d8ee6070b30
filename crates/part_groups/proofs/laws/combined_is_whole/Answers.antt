use Rattle.part_groups.proofs.Whole.{combined_is_whole}
use Rattle.part_groups.proofs.laws.combined_is_whole.Goals as goal

pub returns : goal.returns
returns c = combined_is_whole c.combined_is_found.ensures
