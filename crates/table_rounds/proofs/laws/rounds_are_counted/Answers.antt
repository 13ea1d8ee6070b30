use Rattle.table_rounds.proofs.Reached.{rounds_are_counted}
use Rattle.table_rounds.proofs.laws.rounds_are_counted.Goals as goal

pub returns : goal.returns
returns c = rounds_are_counted
