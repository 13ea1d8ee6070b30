use Rattle.table_rounds.proofs.Agreeing.{tables_tell_stages}
use Rattle.table_rounds.proofs.laws.tables_tell_stages.Goals as goal

pub returns : goal.returns
returns c = tables_tell_stages c.planes_are_taken.ensures
