use Rattle.std.proofs.Common.{take}
use Rattle.round_engine.specs.CellAnswers.{HaveCells}
use Rattle.round_engine.proofs.cell_room.open_each.Given as goal

abbrev pub invariant-loop-item : goal.invariant-loop-item
invariant-loop-item l = HaveCells (take l.item-index l.items) l.most l.runnings.items
