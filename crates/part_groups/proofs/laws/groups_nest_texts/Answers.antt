use Rattle.part_groups.proofs.TextNests.{groups_nest_texts}
use Rattle.part_groups.proofs.laws.groups_nest_texts.Goals as goal

pub returns : goal.returns
returns c = groups_nest_texts
