use Rattle.table_rounds.proofs.OfTables.{tables_are_taken}
use Rattle.table_rounds.proofs.laws.tables_are_taken.Goals as goal

pub returns : goal.returns
returns c = tables_are_taken c.tables_have_parts.ensures c.planes_are_taken.ensures
