use Rattle.std.proofs.Common.{arith}
use Rattle.std.proofs.lemmas.Int.{ints}
use Rattle.avg_exact.proofs.Distances.{high_some}
use Rattle.avg_exact.proofs.thresholds.high_distance.Goals as goal

pub returns-else-floor-from-2 : goal.returns-else-floor-from-2
returns-else-floor-from-2 c =
    high_some c.args.base c.args.top c.args.floor c.apart.result (omega (arith, ints, c.if-floor-from-2.false)) (omega (arith, ints, c.if-floor-from.false)) (omega (arith, ints, c.apart.ensures))
