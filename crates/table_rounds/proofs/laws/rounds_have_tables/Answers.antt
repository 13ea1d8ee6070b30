use Rattle.table_rounds.proofs.OfTables.{rounds_have_tables}
use Rattle.table_rounds.proofs.laws.rounds_have_tables.Goals as goal

pub returns : goal.returns
returns c = rounds_have_tables c.planes_are_taken.ensures c.tables_exist.ensures
