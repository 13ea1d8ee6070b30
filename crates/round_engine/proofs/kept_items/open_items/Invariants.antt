use Rattle.std.proofs.Common.{take}
use Rattle.round_engine.specs.KeptItems.{HoldItems}
use Rattle.round_engine.proofs.kept_items.open_items.Given as goal

abbrev pub invariant-loop-item : goal.invariant-loop-item
invariant-loop-item l = HoldItems l.rows (take l.item-index l.items) l.kept.items
