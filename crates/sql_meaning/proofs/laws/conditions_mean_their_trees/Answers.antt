-- Conditions mean their trees.
use Rattle.sql_meaning.proofs.Truths.{conditions_mean}
use Rattle.sql_meaning.proofs.laws.conditions_mean_their_trees.Goals as goal

pub returns : goal.returns
returns c = conditions_mean
