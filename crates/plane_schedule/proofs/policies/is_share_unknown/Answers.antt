use Rattle.std.proofs.Common.{◌≤◌, ◌*◌, ◌^◌, refl, arith}
use Rattle.std.proofs.Math.Nat.{mul-le-mul}
use Rattle.std.proofs.Math.Pow.{pow_mono}
use Rattle.plane_schedule.proofs.policies.is_share_unknown.Goals as goal

pub returns-then-taken-ge64 : goal.returns-then-taken-ge64
returns-then-taken-ge64 c =
    let many : 2 ^ 64 ≤ 2 ^ c.args.taken = pow_mono c.if-taken-ge64.true in
    let product : 1 * 2 ^ 64 ≤ c.args.progress.now.unknown * 2 ^ c.args.taken = mul-le-mul c.requires many in
    (λ _. omega (arith, product), λ _. refl)
