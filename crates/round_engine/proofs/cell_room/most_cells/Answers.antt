use Rattle.std.proofs.Common.{◌≡◌, ◌<◌, length, get_or, ap, ◌∙◌, arith}
use Rattle.daq_table.specs.Tables.{ends_at, planes}
use Rattle.known_column.specs.Columns.{KnownColumn}
use Rattle.query_model.specs.Answers.{groups_of}
use Rattle.round_engine.proofs.CellKept.{few_group_planes, planes_more}
use Rattle.round_engine.proofs.cell_room.most_cells.Goals as goal

pub overflow_add-digits : goal.overflow_add-digits
overflow_add-digits c =
    let frame = c.args.columns.now.frame in
    let groups = groups_of c.args.query.now.shape in
    let i = c.loop-column.column-index in
    let few = few_group_planes c.args.query.now frame c.requires.open_query in
    let same = c.group_columns-column-items.ensures in
    let inside : i < length groups = omega (arith, c.loop-column-test.true, ap length same) in
    let one : c.plane_count-digits.result ≡ planes (ends_at frame c.from.result) = c.plane_count-digits.ensures.all ∙ ap (λ (k : KnownColumn). planes k.ends) c.column.ensures.column in
    let more = planes_more frame groups i c.from.result inside (c.from.ensures ∙ ap (λ xs. get_or xs i 0) same) in
    omega (arith, few, one, more.0, c.loop-column.invariant)

pub loop-column-preserved : goal.loop-column-preserved
loop-column-preserved c =
    let frame = c.args.columns.now.frame in
    let groups = groups_of c.args.query.now.shape in
    let i = c.loop-column.column-index in
    let same = c.group_columns-column-items.ensures in
    let inside : i < length groups = omega (arith, c.loop-column-test.true, ap length same) in
    let one : c.plane_count-digits.result ≡ planes (ends_at frame c.from.result) = c.plane_count-digits.ensures.all ∙ ap (λ (k : KnownColumn). planes k.ends) c.column.ensures.column in
    let more = planes_more frame groups i c.from.result inside (c.from.ensures ∙ ap (λ xs. get_or xs i 0) same) in
    omega (arith, one, more.1, c.loop-column.invariant)
