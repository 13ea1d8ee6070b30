use Rattle.avg_exact.proofs.laws.exact_averages_contain.Goals as goal
use Rattle.avg_exact.proofs.Worlds.{exact_averages_contain}

pub returns : goal.returns
returns c = exact_averages_contain
