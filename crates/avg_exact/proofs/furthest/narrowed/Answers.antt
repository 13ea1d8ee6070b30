use Rattle.std.proofs.Common.{count_by, ap, arith}
use Rattle.avg_exact.proofs.FurthestRows.{kept_parts}
use Rattle.avg_exact.proofs.furthest.narrowed.Goals as goal

pub returns-else-count-gt0-clause-some : goal.returns-else-count-gt0-clause-some
returns-else-count-gt0-clause-some c = λ some.
    let parts = kept_parts c.args.wanted c.args.level.now c.args.digits.now c.requires in
    omega (arith, some, parts, ap (count_by (λ b. b)) c.keep-some.ensures, ap (count_by (λ b. b)) c.keep.ensures, c.count.ensures, c.if-count-gt0.false)
