use Rattle.std.proofs.Common.{◌∙◌, arith}
use Rattle.std.proofs.lemmas.Int.{ints}
use Rattle.aggregates.proofs.EndSigns.{all_lows_below, no_low_below}
use Rattle.aggregates.proofs.EndSums.{Counts}
use Rattle.aggregates.proofs.ends.negative_lows.Goals as goal

pub returns-then-base-ge0 : goal.returns-then-base-ge0
returns-then-base-ge0 c = c.select_none.ensures ∙ no_low_below c.args.known.now c.args.within.now (omega (arith, ints, c.if-base-ge0.true, c.base.ensures))

pub returns-then-top-lt0 : goal.returns-then-top-lt0
returns-then-top-lt0 c =
    let counts : Counts c.args.known.now c.args.within.now = record { sound = c.number_planes-planes.ensures.sound; rows = c.requires.within; values = c.requires.values } in
    c.copy_from.ensures ∙ all_lows_below c.args.known.now c.args.within.now counts (omega (arith, ints, c.if-top-lt0.true, c.top.ensures))
