use Rattle.std.proofs.Common.{arith}
use Rattle.std.proofs.Math.Nat.{one-le-pow}
use Rattle.daq_table.proofs.numbers.parted.Goals as goal

pub nonzero_div-result : goal.nonzero_div-result
nonzero_div-result c = omega (arith, c.in-Some.ensures, one-le-pow c.args.scale 10 (omega arith))

pub nonzero_rem-result : goal.nonzero_rem-result
nonzero_rem-result c = omega (arith, c.in-Some.ensures, one-le-pow c.args.scale 10 (omega arith))
