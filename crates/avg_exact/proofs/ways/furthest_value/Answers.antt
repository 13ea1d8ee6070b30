use Rattle.std.proofs.Common.{◌≤◌, sym, subst}
use Rattle.known_column.specs.Columns.{KnownColumn}
use Rattle.avg_exact.specs.Blocks.{column_of, part_rows}
use Rattle.avg_exact.specs.Ways.{IsNumberOf}
use Rattle.avg_exact.proofs.ColumnEnds.{furthest_number}
use Rattle.avg_exact.proofs.RowLists.{lent_column, lent_sound, part_counts}
use Rattle.avg_exact.proofs.ways.furthest_value.Goals as goal

pub value_of_number-requires : goal.value_of_number-requires
value_of_number-requires c =
    let stage = c.args.engine.now in
    let is = lent_column stage c.args.item c.args.planes.now.column c.requires.planes.over c.columns.result.now c.column-known.result.now c.columns.ensures c.column-known.ensures.column in
    let sound = lent_sound stage c.args.item c.args.planes.now.column c.requires.planes.over c.columns.result.now c.column-known.result.now c.columns.ensures c.column-known.ensures.column c.rows-rows.ensures.known
    (subst (λ n. n ≤ 64) c.width-width.ensures.digits c.width-width.ensures.few) in
    let counts = part_counts stage c.args.item c.args.planes.now.column c.requires.planes.over c.args.part sound in
    subst (λ (k : KnownColumn). IsNumberOf k c.in-Some.number) (sym is) (furthest_number c.args.toward (column_of stage c.args.planes.now.column) (part_rows stage c.args.item c.args.planes.now.column c.args.part) c.in-Some.number counts c.in-Some.ensures)
