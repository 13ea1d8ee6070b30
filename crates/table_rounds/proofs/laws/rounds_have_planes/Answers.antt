use Rattle.table_rounds.proofs.Outlooks.{rounds_have_planes}
use Rattle.table_rounds.proofs.laws.rounds_have_planes.Goals as goal

pub returns : goal.returns
returns c = rounds_have_planes c.full_stages_are_narrow.ensures
