use Rattle.std.proofs.Common.{◌≡◌, ◌≤◌, ◌*◌, ◌^◌, ap, arith}
use Rattle.std.proofs.Math.Nat.{mul-le-mul_left, pow-le-pow_right}
use Rattle.std.proofs.lemmas.Int.{ints}
use Rattle.digit_sums.proofs.ends.DigitEnds.low.Goals as goal

pub returns : goal.returns
returns c =
    let u = c.args.self.unread in
    let n = c.from-2.result in
    let most : 2 ^ u ≤ 2 ^ 32 = pow-le-pow_right (omega arith) c.args.self.few in
    let product : n * 2 ^ u ≤ n * 2 ^ 32 = mul-le-mul_left n most in
    let is : n ≡ c.args.digits = omega arith in
    let same : n * 2 ^ u ≡ c.args.digits * 2 ^ u = ap (λ k. k * 2 ^ u) is in
    omega (arith, ints, product, same)
