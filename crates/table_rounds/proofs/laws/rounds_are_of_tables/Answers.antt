use Rattle.table_rounds.proofs.OfTables.{rounds_are_of_tables}
use Rattle.table_rounds.proofs.laws.rounds_are_of_tables.Goals as goal

pub returns : goal.returns
returns c = rounds_are_of_tables
