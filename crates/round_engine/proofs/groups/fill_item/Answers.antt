use Rattle.std.proofs.Common.{◌≡◌, arith}
use Rattle.query_model.specs.Answers.{groups_of}
use Rattle.round_engine.specs.Cells.{cells_in}
use Rattle.round_engine.specs.Engines.{stage_of}
use Rattle.round_engine.proofs.OneCell.{is_alone}
use Rattle.round_engine.proofs.groups.fill_item.Goals as goal

pub fill-requires-clause-alone : goal.fill-requires-clause-alone
fill-requires-clause-alone c =
    let columns = c.args.columns.now in
    let stage = stage_of c.args.query.now columns in
    let cells = c.args.cells.now in
    let counted = (c.cells_tell_keys.ensures columns.frame columns.known (groups_of c.args.query.now.shape) cells c.requires.parted.cells_are).count in
    let one : cells_in stage ≡ 1 = omega (arith, counted, c.count.ensures, c.if-count-eq1.true) in
    is_alone stage cells c.args.single.now c.requires.parted c.requires.open_stage.knowledge c.cells_tell_keys.ensures one
