use Rattle.std.proofs.Common.{◌≤◌, subst}
use Rattle.avg_exact.specs.declared.passes.End.TheVariants.{High}
use Rattle.avg_exact.specs.declared.planes.Part.TheVariants.{Reached}
use Rattle.avg_exact.proofs.ColumnEnds.{greatest_found}
use Rattle.avg_exact.proofs.RowLists.{lent_sound, part_counts}
use Rattle.avg_exact.proofs.ways.greatest_by_planes.Goals as goal

pub returns-clause-greatest : goal.returns-clause-greatest
returns-clause-greatest c =
    let stage = c.args.engine.now in
    let sound = lent_sound stage c.args.item c.args.planes.now.column c.requires.planes.over c.columns.result.now c.column-known.result.now c.columns.ensures c.column-known.ensures.column c.rows-rows.ensures.known
    (subst (λ n. n ≤ 64) c.width-width.ensures.digits c.width-width.ensures.few) in
    greatest_found stage c.args.item c.args.planes.now.column c.requires.planes.over c.args.end c.furthest_value.result c.requires.uncertain
    (part_counts stage c.args.item c.args.planes.now.column c.requires.planes.over (Reached High 0) sound) c.furthest_value.ensures.value
