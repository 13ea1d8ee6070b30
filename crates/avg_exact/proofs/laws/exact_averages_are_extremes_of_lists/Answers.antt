use Rattle.avg_exact.proofs.laws.exact_averages_are_extremes_of_lists.Goals as goal
use Rattle.avg_exact.proofs.ListEnds.{exact_averages_are_extremes_of_lists}

pub returns : goal.returns
returns c = exact_averages_are_extremes_of_lists
