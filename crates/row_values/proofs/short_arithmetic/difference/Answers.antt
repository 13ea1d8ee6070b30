use Rattle.std.proofs.Common.{arith}
use Rattle.std.proofs.lemmas.Int.{ints}
use Rattle.row_values.proofs.short_arithmetic.difference.Goals as goal

pub invariant_of-result : goal.invariant_of-result
invariant_of-result c =
    let low = c.requires.0.sfits in
    let high = c.requires.1.sfits in
    let first = c.args.a.ordered in
    let second = c.args.b.ordered in
    record { ordered = omega (arith, ints) }
