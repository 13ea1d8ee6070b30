-- Arguments mean their trees.
use Rattle.sql_meaning.proofs.Asked.{arguments_mean}
use Rattle.sql_meaning.proofs.laws.arguments_mean_their_trees.Goals as goal

pub returns : goal.returns
returns c = arguments_mean
