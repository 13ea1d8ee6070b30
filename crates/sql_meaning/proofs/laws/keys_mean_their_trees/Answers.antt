-- Keys mean their trees.
use Rattle.sql_meaning.proofs.Keyed.{keys_mean}
use Rattle.sql_meaning.proofs.laws.keys_mean_their_trees.Goals as goal

pub returns : goal.returns
returns c = keys_mean
