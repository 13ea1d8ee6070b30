use Rattle.table_rounds.proofs.Alone.{queries_stand_alone}
use Rattle.table_rounds.proofs.session_laws.queries_stand_alone.Goals as goal

pub returns : goal.returns
returns c = queries_stand_alone
