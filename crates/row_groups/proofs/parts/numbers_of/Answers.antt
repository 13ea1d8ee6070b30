use Rattle.std.proofs.Common.{◌*◌, ◌^◌, ◌≤◌, ◌∙◌, arith}
use Rattle.std.proofs.Math.Nat.{pow-le-pow_right, mod-eq_of_lt}
use Rattle.row_groups.proofs.parts.numbers_of.Goals as goal

pub returns : goal.returns
returns c =
    let small : 2 ^ c.args.digits ≤ 2 ^ 16 = pow-le-pow_right (omega arith) c.requires in
    mod-eq_of_lt {n = 1 * 2 ^ c.args.digits} {m = 4294967296} (omega arith) ∙ omega arith
