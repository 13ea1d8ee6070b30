use Rattle.table_rounds.proofs.Short.{sessions_are_short}
use Rattle.table_rounds.proofs.session_laws.sessions_are_short.Goals as goal

pub returns : goal.returns
returns c = sessions_are_short
