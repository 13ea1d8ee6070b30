use Rattle.std.proofs.Common.{◌≤◌, ◌^◌, arith}
use Rattle.std.proofs.Math.Nat.{pow-le-pow_right}
use Rattle.aggregates.proofs.spans.block_span.Goals as goal

pub returns-clause-few : goal.returns-clause-few
returns-clause-few c = (let most : 2 ^ c.args.unread ≤ 2 ^ 65 = pow-le-pow_right (omega arith) c.requires in omega (arith, most))
