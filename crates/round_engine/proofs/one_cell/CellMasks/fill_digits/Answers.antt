use Rattle.std.proofs.Common.{arith}
use Rattle.round_engine.specs.Engines.{stage_of}
use Rattle.round_engine.proofs.CellRows.{cells_fit}
use Rattle.round_engine.proofs.one_cell.CellMasks.fill_digits.Goals as goal

pub copy_to-requires : goal.copy_to-requires
copy_to-requires c =
    let stage = stage_of c.args.query.now c.args.columns.now in
    omega (arith, (c.tell_digits-told.ensures.told c.if-told.true).stand.cells, cells_fit stage c.requires.open_stage, c.requires.room.room)
