use Rattle.part_groups.proofs.TextLaws.{groups_tell_texts}
use Rattle.part_groups.proofs.laws.groups_tell_texts.Goals as goal

pub returns : goal.returns
returns c = groups_tell_texts
