use Rattle.avg_exact.proofs.laws.exact_averages_lie_within.Goals as goal
use Rattle.avg_exact.proofs.ListEnds.{exact_averages_lie_within}

pub returns : goal.returns
returns c = exact_averages_lie_within
