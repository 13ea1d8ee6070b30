-- Results mean their trees.
use Rattle.sql_meaning.proofs.Resulted.{results_mean}
use Rattle.sql_meaning.proofs.laws.results_mean_their_trees.Goals as goal

pub returns : goal.returns
returns c = results_mean
