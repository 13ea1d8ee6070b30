use Rattle.aggregates.proofs.Appending.{no_pairs}
use Rattle.aggregates.proofs.tally.Tally.none.Goals as goal

pub returns : goal.returns
returns c = λ kind. no_pairs kind
