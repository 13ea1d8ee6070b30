use Rattle.table_gen.proofs.Laws.{stands_once}
use Rattle.table_gen.proofs.exactness.tables_are_one.Goals as goal

pub returns : goal.returns
returns c = stands_once
