use Rattle.part_groups.proofs.WholeLaws.{groups_have_columns}
use Rattle.part_groups.proofs.laws.groups_have_columns.Goals as goal

pub returns : goal.returns
returns c = groups_have_columns
