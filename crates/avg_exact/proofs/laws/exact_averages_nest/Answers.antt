use Rattle.avg_exact.proofs.laws.exact_averages_nest.Goals as goal
use Rattle.avg_exact.proofs.Worlds.{exact_averages_nest}

pub returns : goal.returns
returns c = exact_averages_nest
