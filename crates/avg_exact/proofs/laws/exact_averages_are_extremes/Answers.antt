use Rattle.avg_exact.proofs.laws.exact_averages_are_extremes.Goals as goal
use Rattle.avg_exact.proofs.Worlds.{exact_averages_are_extremes}

pub returns : goal.returns
returns c = exact_averages_are_extremes
