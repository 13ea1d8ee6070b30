use Rattle.table_gen.proofs.SomeTable.{have_tables}
use Rattle.table_gen.proofs.exactness.seeds_have_tables.Goals as goal

pub returns : goal.returns
returns c = have_tables
