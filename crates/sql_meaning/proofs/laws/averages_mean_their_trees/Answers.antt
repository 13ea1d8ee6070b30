-- Averages mean their trees.
use Rattle.sql_meaning.proofs.Answered.{averages_mean}
use Rattle.sql_meaning.proofs.laws.averages_mean_their_trees.Goals as goal

pub returns : goal.returns
returns c = averages_mean
