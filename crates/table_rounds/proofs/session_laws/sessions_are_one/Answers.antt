use Rattle.table_rounds.proofs.StepsAreOne.{sessions_are_one}
use Rattle.table_rounds.proofs.session_laws.sessions_are_one.Goals as goal

pub returns : goal.returns
returns c = sessions_are_one c.choices_are_one.ensures
