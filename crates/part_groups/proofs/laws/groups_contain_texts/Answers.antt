use Rattle.part_groups.proofs.TextLaws.{groups_contain_texts}
use Rattle.part_groups.proofs.laws.groups_contain_texts.Goals as goal

pub returns : goal.returns
returns c = groups_contain_texts
