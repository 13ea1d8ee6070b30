use Rattle.std.proofs.Common.{◌≡◌, take}
use Rattle.round_engine.proofs.cell_room.declared_ends.Given as goal

abbrev pub invariant-loop-column : goal.invariant-loop-column
invariant-loop-column l = l.ends.items ≡ take l.column l.columns.frame.columns
