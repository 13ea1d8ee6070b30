use Rattle.std.specs.Int.{w128}
use Rattle.std.proofs.lemmas.Int.{wrapping_sub_is}
use Rattle.product_sums.proofs.wrapping.minus.Goals as goal

pub returns : goal.returns
returns c = wrapping_sub_is w128 c.args.a c.args.b c.ranges.a c.ranges.b
