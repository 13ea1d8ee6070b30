use Rattle.std.proofs.Common.{◌≤◌, None, Some, subst}
use Rattle.known_column.specs.Columns.{KnownColumn}
use Rattle.avg_exact.specs.declared.planes.Part.TheVariants.{Reached}
use Rattle.avg_exact.specs.Blocks.{IsThreshold, column_of, part_rows}
use Rattle.avg_exact.specs.Ways.{IsFurthestValue}
use Rattle.avg_exact.proofs.ColumnEnds.{least_found, no_least}
use Rattle.avg_exact.proofs.RowLists.{lent_column, lent_sound, part_counts}
use Rattle.avg_exact.proofs.ways.least_by_planes.Goals as goal

pub returns-in-None-clause-least : goal.returns-in-None-clause-least
returns-in-None-clause-least c =
    let stage = c.args.engine.now in
    let is = lent_column stage c.args.item c.args.planes.now.column c.requires.planes.over c.columns.result.now c.column-known.result.now c.columns.ensures c.column-known.ensures.column in
    no_least stage c.args.item c.args.planes.now.column c.requires.planes.over c.args.end c.args.over (subst (λ (k : KnownColumn). IsThreshold k c.args.end c.args.over None) is c.in-None.ensures)

pub returns-in-Some-clause-least : goal.returns-in-Some-clause-least
returns-in-Some-clause-least c =
    let stage = c.args.engine.now in
    let is = lent_column stage c.args.item c.args.planes.now.column c.requires.planes.over c.columns.result.now c.column-known.result.now c.columns.ensures c.column-known.ensures.column in
    let sound = lent_sound stage c.args.item c.args.planes.now.column c.requires.planes.over c.columns.result.now c.column-known.result.now c.columns.ensures c.column-known.ensures.column c.rows-rows.ensures.known
    (subst (λ n. n ≤ 64) c.width-width.ensures.digits c.width-width.ensures.few) in
    let rows = part_rows stage c.args.item c.args.planes.now.column (Reached c.args.end c.in-Some.t) in
    least_found stage c.args.item c.args.planes.now.column c.requires.planes.over c.args.end c.args.over c.in-Some.t c.furthest_value.result
    (subst (λ (k : KnownColumn). IsThreshold k c.args.end c.args.over (Some c.in-Some.t)) is c.in-Some.ensures)
    (part_counts stage c.args.item c.args.planes.now.column c.requires.planes.over (Reached c.args.end c.in-Some.t) sound)
    (subst (λ toward. IsFurthestValue toward c.args.end (column_of stage c.args.planes.now.column) rows c.furthest_value.result) c.opposite.ensures c.furthest_value.ensures.value)
