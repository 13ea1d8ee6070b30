use Rattle.std.proofs.Common.{◌≤◌, ◌*◌, ◌^◌, arith}
use Rattle.std.proofs.Math.Nat.{mul-le-mul_left, pow-le-pow_right}
use Rattle.digit_sums.proofs.ends.DigitEnds.lows.Goals as goal

pub lows_of_rows-requires-clause-few : goal.lows_of_rows-requires-clause-few
lows_of_rows-requires-clause-few c =
    let most : 2 ^ c.args.self.unread ≤ 2 ^ 32 = pow-le-pow_right (omega arith) c.args.self.few in
    let product : c.from-2.result * 2 ^ c.args.self.unread ≤ c.from-2.result * 2 ^ 32 = mul-le-mul_left c.from-2.result most in
    omega (arith, product, c.requires.sum, c.requires.rows)
