use Rattle.avg_exact.proofs.laws.exact_averages_are_certain.Goals as goal
use Rattle.avg_exact.proofs.Certain.{exact_averages_are_certain}

pub returns : goal.returns
returns c = exact_averages_are_certain
