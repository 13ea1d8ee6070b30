use Rattle.std.proofs.Common.{◌<◌, ◌∙◌, arith}
use Rattle.query_model.specs.Answers.{every_row, groups_of}
use Rattle.query_model.specs.Groups.{pairs_in_cell}
use Rattle.round_engine.specs.Cells.{cells_in}
use Rattle.round_engine.specs.Engines.{stage_of}
use Rattle.round_engine.proofs.CellRows.{cells_fit}
use Rattle.round_engine.proofs.FewCells.{part_more}
use Rattle.round_engine.proofs.PresenceCounts.{counts_alike}
use Rattle.round_engine.proofs.one_cell.CellMasks.count_digits.Goals as goal

pub begin-requires : goal.begin-requires
begin-requires c =
    let stage = stage_of c.args.query.now c.args.columns.now in
    let counted = (c.cells_tell_keys.ensures c.args.columns.now.frame c.args.columns.now.known (groups_of c.args.query.now.shape) c.args.cells.now c.requires.cells).count in
    omega (arith, counted, c.count.ensures, cells_fit stage c.requires.open_stage, c.requires.room.room)

pub loop-cell-preserved : goal.loop-cell-preserved
loop-cell-preserved c =
    let stage = stage_of c.args.query.now c.args.columns.now in
    let cell = c.loop-cell.cell in
    let item = c.requires.told.item in
    let told = c.requires.told.told in
    let counted = (c.cells_tell_keys.ensures c.args.columns.now.frame c.args.columns.now.known (groups_of c.args.query.now.shape) c.args.cells.now c.requires.cells).count in
    let within : cell < cells_in stage = omega (arith, counted, c.count-cell-end.ensures, c.loop-cell-test.true) in
    part_more c.args.query.now every_row c.args.columns.now cell c.loop-cell.presence c.set.new.self c.count-in-loop-cell.result c.requires.open_stage.knowledge c.loop-cell.invariant c.set.ensures
    (c.count-in-loop-cell.ensures (pairs_in_cell stage.query item cell stage.frame stage.known) (told.stand.stands cell within) ∙ counts_alike stage.query item cell stage.frame stage.known told.never_null)
