use Rattle.table_rounds.proofs.Begun.{rounds_begin}
use Rattle.table_rounds.proofs.laws.rounds_begin.Goals as goal

pub returns : goal.returns
returns c = rounds_begin c.start_is_knowledge.ensures
