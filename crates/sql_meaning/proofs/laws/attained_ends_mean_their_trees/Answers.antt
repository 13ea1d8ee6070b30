-- Ends that are attained mean their trees.
use Rattle.sql_meaning.proofs.Attained.{ends_attained}
use Rattle.sql_meaning.proofs.laws.attained_ends_mean_their_trees.Goals as goal

pub returns : goal.returns
returns c = ends_attained
