use Rattle.std.specs.Int.{w128}
use Rattle.std.proofs.lemmas.Int.{wrapping_add_is}
use Rattle.product_sums.proofs.wrapping.plus.Goals as goal

pub returns : goal.returns
returns c = wrapping_add_is w128 c.args.a c.args.b c.ranges.a c.ranges.b
