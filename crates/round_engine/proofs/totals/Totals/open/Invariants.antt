use Rattle.std.proofs.Common.{take}
use Rattle.round_engine.specs.Totals.{HaveRoom}
use Rattle.round_engine.proofs.totals.Totals.open.Given as goal

abbrev pub invariant-loop-item : goal.invariant-loop-item
invariant-loop-item l = HaveRoom (take l.item-index l.items) l.runnings.items
