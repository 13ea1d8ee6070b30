use Rattle.std.proofs.Common.{◌<◌, ap, ◌∙◌, arith}
use Rattle.aggregates.proofs.Adding.{few_certain}
use Rattle.aggregates.specs.declared.tally.Tally.{Tally}
use Rattle.aggregates.specs.Tallies.{tally_of}
use Rattle.query_model.specs.Queries.{Aggregate}
use Rattle.query_model.specs.Answers.{groups_of}
use Rattle.query_model.specs.Groups.{pairs_in_cell}
use Rattle.round_engine.specs.Cells.{cells_in}
use Rattle.round_engine.specs.Engines.{stage_of}
use Rattle.round_engine.proofs.CellRows.{cells_fit}
use Rattle.round_engine.proofs.FewCells.{part_more}
use Rattle.round_engine.proofs.PresenceCounts.{counted_rows, spanned_cell, values_in_cell}
use Rattle.round_engine.proofs.presence_counts.copy_counts.Goals as goal

pub begin-requires : goal.begin-requires
begin-requires c =
    let stage = stage_of c.args.query.now c.args.columns.now in
    let counted = (c.cells_tell_keys.ensures c.args.columns.now.frame c.args.columns.now.known (groups_of c.args.query.now.shape) c.args.cells.now c.requires.cells).count in
    omega (arith, counted, c.count.ensures, cells_fit stage c.requires.open_stage, c.requires.room.room)

pub tally-rows-requires : goal.tally-rows-requires
tally-rows-requires c =
    let counted = (c.cells_tell_keys.ensures c.args.columns.now.frame c.args.columns.now.known (groups_of c.args.query.now.shape) c.args.cells.now c.requires.cells).count in
    omega (arith, counted, c.count-cell-end.ensures, c.loop-cell-test.true, c.requires.presence.cells)

pub tally_in_span-requires-clause-few : goal.tally_in_span-requires-clause-few
tally_in_span-requires-clause-few c =
    let stage = stage_of c.args.query.now c.args.columns.now in
    let cell = c.loop-cell.cell in
    let item = c.args.item.now in
    let counted = (c.cells_tell_keys.ensures c.args.columns.now.frame c.args.columns.now.known (groups_of c.args.query.now.shape) c.args.cells.now c.requires.cells).count in
    let within : cell < cells_in stage = omega (arith, counted, c.count-cell-end.ensures, c.loop-cell-test.true) in
    let rows = counted_rows stage c.args.presence.now cell c.tally-rows.result c.requires.presence within c.tally-rows.ensures in
    let is = c.of_rows-count.ensures _ _ (values_in_cell stage.query item cell stage.frame stage.known c.args.values.nullable c.requires.told.null) rows in
    let few = (c.pairs_are_few.ensures stage.query item stage.frame stage.known stage.frame.rows).in_cell cell in
    omega (arith, few, c.requires.open_stage.open_query.few_rows, ap (λ (t : Tally). t.all) is)

pub tally_in_span-requires-clause-certain : goal.tally_in_span-requires-clause-certain
tally_in_span-requires-clause-certain c =
    let stage = stage_of c.args.query.now c.args.columns.now in
    let cell = c.loop-cell.cell in
    let item = c.args.item.now in
    let counted = (c.cells_tell_keys.ensures c.args.columns.now.frame c.args.columns.now.known (groups_of c.args.query.now.shape) c.args.cells.now c.requires.cells).count in
    let within : cell < cells_in stage = omega (arith, counted, c.count-cell-end.ensures, c.loop-cell-test.true) in
    let rows = counted_rows stage c.args.presence.now cell c.tally-rows.result c.requires.presence within c.tally-rows.ensures in
    let is = c.of_rows-count.ensures _ _ (values_in_cell stage.query item cell stage.frame stage.known c.args.values.nullable c.requires.told.null) rows in
    omega (arith, few_certain (pairs_in_cell stage.query item cell stage.frame stage.known), ap (λ (t : Tally). t.certain) is, ap (λ (t : Tally). t.all) is)

pub loop-cell-preserved : goal.loop-cell-preserved
loop-cell-preserved c =
    let stage = stage_of c.args.query.now c.args.columns.now in
    let cell = c.loop-cell.cell in
    let item = c.args.item.now in
    let told = c.requires.told in
    let counted = (c.cells_tell_keys.ensures c.args.columns.now.frame c.args.columns.now.known (groups_of c.args.query.now.shape) c.args.cells.now c.requires.cells).count in
    let within : cell < cells_in stage = omega (arith, counted, c.count-cell-end.ensures, c.loop-cell-test.true) in
    let rows = counted_rows stage c.args.presence.now cell c.tally-rows.result c.requires.presence within c.tally-rows.ensures in
    let ps = pairs_in_cell stage.query item cell stage.frame stage.known in
    let is = c.of_rows-count.ensures ps _ (values_in_cell stage.query item cell stage.frame stage.known c.args.values.nullable told.null) rows in
    let kind = ap (λ (i : Aggregate). i.kind) c.item.view_is in
    part_more c.args.query.now item c.args.columns.now cell c.loop-cell.running c.set.new.self c.tally_in_span.result c.requires.open_stage.knowledge c.loop-cell.invariant c.set.ensures
    (c.tally_in_span.ensures ps is (λ other. spanned_cell stage.query item stage.frame stage.known cell _ (told.numbers (λ counts. other (kind ∙ counts)))) ∙ ap (λ k. tally_of k ps) kind)
