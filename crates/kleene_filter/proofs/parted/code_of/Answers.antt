use Rattle.std.proofs.Common.{◌≤◌, ◌^◌, ap, arith}
use Rattle.std.proofs.Math.Nat.{pow-le-pow_right}
use Rattle.std.proofs.lemmas.Int.{ints}
use Rattle.known_column.proofs.CodeDigits.{spread_small}
use Rattle.kleene_filter.proofs.parted.code_of.Goals as goal

pub overflow_add-result : goal.overflow_add-result
overflow_add-result c =
    let small = spread_small c.args.column.now.ends in
    let few : 2 ^ c.width.result ≤ 2 ^ 64 = pow-le-pow_right (omega arith) c.width.ensures.few in
    let same = ap (λ k. 2 ^ k) c.width.ensures.digits in
    omega (arith, ints, small, few, same)
