-- Intervals contain what is asked for.
use Rattle.sql_meaning.proofs.Enclosed.{intervals_mean}
use Rattle.sql_meaning.proofs.laws.intervals_mean_their_trees.Goals as goal

pub returns : goal.returns
returns c = intervals_mean
