use Rattle.std.proofs.Common.{arith}
use Rattle.query_model.specs.Answers.{groups_of}
use Rattle.round_engine.specs.Engines.{stage_of}
use Rattle.round_engine.proofs.CellRows.{cells_fit}
use Rattle.round_engine.proofs.one_cell.CellMasks.fill_compact.Goals as goal

pub begin-requires : goal.begin-requires
begin-requires c =
    let stage = stage_of c.args.query.now c.args.columns.now in
    let counted = (c.cells_tell_keys.ensures c.args.columns.now.frame c.args.columns.now.known (groups_of c.args.query.now.shape) c.args.cells.now c.requires.parted.cells_are).count in
    omega (arith, counted, c.count-total.ensures, cells_fit stage c.requires.open_stage, c.requires.parted.room, c.room.ensures, c.if-room-single.true)

pub begin-requires-then-room-single-2-clause-cells : goal.begin-requires-then-room-single-2-clause-cells
begin-requires-then-room-single-2-clause-cells c =
    let stage = stage_of c.args.query.now c.args.columns.now in
    let counted = (c.cells_tell_keys.ensures c.args.columns.now.frame c.args.columns.now.known (groups_of c.args.query.now.shape) c.args.cells.now c.requires.parted.cells_are).count in
    omega (arith, counted, c.count-total.ensures, cells_fit stage c.requires.open_stage, c.requires.parted.room, c.room-then-fits_cells.ensures, c.if-room-single-2.true)

pub copy_counts-requires : goal.copy_counts-requires
copy_counts-requires c =
    let stage = stage_of c.args.query.now c.args.columns.now in
    omega (arith, c.count_rows.ensures.stand.cells, cells_fit stage c.requires.open_stage, c.requires.room.room)

pub copy_sums-requires : goal.copy_sums-requires
copy_sums-requires c =
    let stage = stage_of c.args.query.now c.args.columns.now in
    omega (arith, c.sum_rows.ensures.stand.cells, cells_fit stage c.requires.open_stage, c.requires.room.room)
