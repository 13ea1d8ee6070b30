use Rattle.std.proofs.Common.{◌≡◌, ◌+◌, ◌*◌, subst, arith}
use Rattle.aggregates.specs.ExtremeRows.{IsBestAmong}
use Rattle.aggregates.proofs.EndSums.{Counts}
use Rattle.aggregates.proofs.ExtremeEnds.{extreme_unread}
use Rattle.aggregates.proofs.extreme_rows.extreme_row.Goals as goal

pub returns-then-from-to-clause-row : goal.returns-then-from-to-clause-row
returns-then-from-to-clause-row c =
    let column = c.args.known.now in
    let mask = c.args.mask.now in
    let planes = c.number_planes-from in
    let counts : Counts column mask = record { sound = planes.ensures.sound; rows = c.requires.rows; values = c.requires.values } in
    extreme_unread c.args.extreme column mask c.first_one.result counts (omega (arith, c.if-from-to.true, planes.ensures.from, planes.ensures.to)) c.first_one.ensures.first c.first_one.ensures.none.0

pub loop-block-preserved : goal.loop-block-preserved
loop-block-preserved c =
    let next : 512 * c.loop-block.block + 512 ≡ 512 * (c.loop-block.block + 1) = omega arith in
    subst (λ to. IsBestAmong c.args.extreme c.args.known.now c.args.mask.now 0 to c.extreme_so_far-best.result) next c.extreme_so_far-best.ensures.best
