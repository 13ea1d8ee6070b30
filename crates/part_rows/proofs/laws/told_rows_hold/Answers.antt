use Rattle.part_rows.proofs.Trees.{told_rows_hold}
use Rattle.part_rows.proofs.laws.told_rows_hold.Goals as goal

pub returns : goal.returns
returns c = told_rows_hold
