use Rattle.table_rounds.proofs.Agreeing.{legal_planes_have_tables}
use Rattle.table_rounds.proofs.laws.legal_planes_have_tables.Goals as goal

pub returns : goal.returns
returns c = legal_planes_have_tables c.planes_are_taken.ensures c.tables_exist.ensures
