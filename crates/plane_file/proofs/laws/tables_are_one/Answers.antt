use Rattle.plane_file.proofs.OneHead.{one_table}
use Rattle.plane_file.proofs.laws.tables_are_one.Goals as goal

pub returns : goal.returns
returns c = one_table
