-- Answers mean their trees.
use Rattle.sql_meaning.proofs.Answered.{answers_mean}
use Rattle.sql_meaning.proofs.laws.answers_mean_their_trees.Goals as goal

pub returns : goal.returns
returns c = answers_mean
