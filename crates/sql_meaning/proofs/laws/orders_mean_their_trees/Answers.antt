-- Orders mean their trees.
use Rattle.sql_meaning.proofs.Ordered.{orders_mean}
use Rattle.sql_meaning.proofs.laws.orders_mean_their_trees.Goals as goal

pub returns : goal.returns
returns c = orders_mean
