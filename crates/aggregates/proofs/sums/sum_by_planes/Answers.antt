use Rattle.std.proofs.Common.{sym, ◌∙◌, arith}
use Rattle.aggregates.proofs.EndSums.{OfColumn, short_early, short_start}
use Rattle.aggregates.proofs.sums.sum_by_planes.Goals as goal

pub sum_further-requires-clause-first : goal.sum_further-requires-clause-first
sum_further-requires-clause-first c =
    let column = c.args.known.now in
    let mask = c.args.mask.now in
    let of : OfColumn column mask = record { sound = c.number_planes-planes.ensures.sound; rows = c.requires.rows } in
    sym (short_early column mask 0 of (omega arith) ∙ short_start column mask 0 of (omega arith))
