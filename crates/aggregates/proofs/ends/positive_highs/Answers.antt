use Rattle.std.proofs.Common.{◌∙◌, arith}
use Rattle.std.proofs.lemmas.Int.{ints}
use Rattle.aggregates.proofs.EndSigns.{all_highs_above, no_high_above}
use Rattle.aggregates.proofs.ends.positive_highs.Goals as goal

pub returns-then-top-le0 : goal.returns-then-top-le0
returns-then-top-le0 c = c.select_none.ensures ∙ no_high_above c.args.known.now c.args.within.now (omega (arith, ints, c.if-top-le0.true, c.top.ensures))

pub returns-then-base-gt0 : goal.returns-then-base-gt0
returns-then-base-gt0 c = c.copy_from.ensures ∙ all_highs_above c.args.known.now c.args.within.now (omega (arith, ints, c.if-base-gt0.true, c.base.ensures))
