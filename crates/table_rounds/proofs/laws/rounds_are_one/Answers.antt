-- Each round of one is a round of the other.
use Rattle.table_rounds.proofs.Going.{rounds_are_one}
use Rattle.table_rounds.proofs.laws.rounds_are_one.Goals as goal

pub returns : goal.returns
returns c = rounds_are_one c.choices_are_one.ensures
