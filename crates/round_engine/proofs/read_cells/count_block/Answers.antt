use Rattle.std.proofs.Common.{arith}
use Rattle.round_engine.specs.Engines.{stage_of}
use Rattle.round_engine.proofs.CellKept.{parted_rows}
use Rattle.round_engine.proofs.ReadBlocks.{block_cells}
use Rattle.round_engine.proofs.read_cells.count_block.Goals as goal

pub read_block-requires : goal.read_block-requires
read_block-requires c = omega (arith, c.requires.number, parted_rows (stage_of c.args.query.now c.args.columns.now) c.args.rows.cells.now c.args.rows.single.now c.requires.parted)

pub count_sure-requires-clause-own : goal.count_sure-requires-clause-own
count_sure-requires-clause-own c =
    block_cells (stage_of c.args.query.now c.args.columns.now) c.args.rows.cells.now c.args.rows.single.now c.requires.parted c.requires.open_stage.knowledge c.cells_tell_keys.ensures c.args.number c.read_block.new.block c.read_block.ensures

pub count_unsure-requires-clause-own : goal.count_unsure-requires-clause-own
count_unsure-requires-clause-own c =
    block_cells (stage_of c.args.query.now c.args.columns.now) c.args.rows.cells.now c.args.rows.single.now c.requires.parted c.requires.open_stage.knowledge c.cells_tell_keys.ensures c.args.number c.read_block.new.block c.read_block.ensures
