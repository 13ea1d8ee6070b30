-- Intervals of averages contain what is asked for.
use Rattle.sql_meaning.proofs.Shares.{averages_contained}
use Rattle.sql_meaning.proofs.laws.intervals_of_averages_mean_their_trees.Goals as goal

pub returns : goal.returns
returns c = averages_contained
