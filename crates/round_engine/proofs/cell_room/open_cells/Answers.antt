use Rattle.std.proofs.Common.{length, ap, arith}
use Rattle.round_engine.proofs.CellKept.{few_groups}
use Rattle.round_engine.proofs.cell_room.open_cells.Goals as goal

pub open-requires-clause-few : goal.open-requires-clause-few
open-requires-clause-few c =
    let few = few_groups c.args.query.now c.args.columns.now.frame c.requires.open_query in
    let same = ap length c.group_columns.ensures in
    let columns = c.requires.open_query.columns in
    let all = c.requires.open_query.few_columns in
    omega (arith, few, same, columns, all)
