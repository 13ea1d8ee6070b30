use Rattle.table_rounds.proofs.End.{sessions_have_an_end}
use Rattle.table_rounds.proofs.session_laws.sessions_have_an_end.Goals as goal

pub returns : goal.returns
returns c = sessions_have_an_end c.rounds_begin.ensures c.rounds_have_planes.ensures c.policies_choose.ensures c.taken_is_knowledge.ensures
