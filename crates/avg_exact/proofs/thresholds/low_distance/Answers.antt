use Rattle.std.proofs.Common.{arith, ◌≡◌, ◌-ℤ◌, nat_abs, subst, sym, Some}
use Rattle.std.proofs.lemmas.Int.{ints}
use Rattle.avg_exact.specs.declared.passes.End.TheVariants.{Low}
use Rattle.avg_exact.specs.Blocks.{IsDistance}
use Rattle.avg_exact.proofs.Distances.{low_all, low_none, low_some}
use Rattle.avg_exact.proofs.thresholds.low_distance.Goals as goal

pub returns-then-floor-nearest : goal.returns-then-floor-nearest
returns-then-floor-nearest c = low_none c.args.base c.args.top c.args.floor (omega (arith, ints, c.if-floor-nearest.true, c.from-nearest.ensures))

pub returns-then-floor-from : goal.returns-then-floor-from
returns-then-floor-from c =
    let is : c.abs_diff.result ≡ nat_abs (c.args.top -ℤ c.args.base) = omega (arith, ints, c.abs_diff.ensures) in
    subst (λ z. IsDistance Low c.args.base c.args.top c.args.floor (Some z)) (sym is)
    (low_all c.args.base c.args.top c.args.floor c.requires (omega (arith, ints, c.if-floor-from.true, c.from.ensures)))

pub returns-else-floor-from : goal.returns-else-floor-from
returns-else-floor-from c =
    low_some c.args.base c.args.top c.args.floor c.apart.result c.requires (omega (arith, ints, c.if-floor-nearest.false, c.from-nearest.ensures)) (omega (arith, ints, c.if-floor-from.false, c.from.ensures))
    (omega (arith, ints, c.apart.ensures, c.from-nearest.ensures))

pub apart-requires-clause-near : goal.apart-requires-clause-near
apart-requires-clause-near c = omega (arith, ints, c.if-floor-from.false, c.from.ensures, c.from-nearest.ensures, c.ranges.base.sfits, c.ranges.top.sfits)
