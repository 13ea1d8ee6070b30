use Rattle.std.proofs.Common.{arith}
use Rattle.round_engine.specs.Engines.{stage_of}
use Rattle.round_engine.proofs.CellRows.{cells_fit}
use Rattle.round_engine.proofs.OneCell.{stand_alone}
use Rattle.round_engine.proofs.one_cell.CellMasks.fill.Goals as goal
use Rattle.round_engine.proofs.one_cell.CellMasks.fill.Goals.{in-Column, in_default}

pub begin-requires : goal.begin-requires
begin-requires c = omega (arith, cells_fit (stage_of c.args.query.now c.args.columns.now) c.requires.open_stage, c.requires.alone.one, c.requires.room.room)

pub returns-clause-stand : goal.returns-clause-stand
returns-clause-stand c =
    stand_alone c.args.query.now c.args.item.now c.args.columns.now c.args.running.now c.begin.new.self c.set.new.self _ c.args.certain c.requires.open_stage.knowledge c.requires.alone c.requires.room c.begin.ensures c.set.ensures
    (elim c.match-item.branch [
      | in-Column w ↦ rw w.tally-is w.tally_column-tally.ensures.tally
      | in_default w ↦ rw w.tally-is w.count_rows-tally.ensures
    ])
