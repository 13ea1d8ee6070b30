use Rattle.csv_load.proofs.OneTable.{stands_once}
use Rattle.csv_load.proofs.exactness.tables_are_one.Goals as goal

pub returns : goal.returns
returns c = stands_once
