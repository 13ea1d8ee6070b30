use Rattle.table_rounds.proofs.Going.{rounds_have_an_end}
use Rattle.table_rounds.proofs.laws.rounds_have_an_end.Goals as goal

pub returns : goal.returns
returns c = rounds_have_an_end c.rounds_have_planes.ensures c.policies_choose.ensures c.taken_is_knowledge.ensures
