use Rattle.std.proofs.Common.{arith}
use Rattle.std.proofs.lemmas.Int.{ints}
use Rattle.clip_bounds.proofs.sums.end_step.Goals as goal

pub returns-clause-few : goal.returns-clause-few
returns-clause-few c =
    let least = c.part_of.ensures.long.0 in
    let greatest = c.part_of.ensures.long.1 in
    let lower = c.part_of-2.ensures.long.0 in
    let upper = c.part_of-2.ensures.long.1 in
    (omega (arith, ints), omega (arith, ints))
