use Rattle.avg_exact.proofs.laws.high_ends_are_best.Goals as goal
use Rattle.avg_exact.proofs.HighEnds.{high_ends_are_best}

pub returns : goal.returns
returns c = high_ends_are_best
