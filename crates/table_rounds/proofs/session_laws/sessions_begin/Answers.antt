use Rattle.table_rounds.proofs.SessionsBegin.{sessions_begin}
use Rattle.table_rounds.proofs.session_laws.sessions_begin.Goals as goal

pub returns : goal.returns
returns c = sessions_begin c.rounds_begin.ensures
