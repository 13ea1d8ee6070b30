use Rattle.std.proofs.Common.{◌≡◌, map, take}
use Rattle.query_kinds.specs.Beside.{beside_in}
use Rattle.query_kinds.specs.Kinds.{items_in}
use Rattle.query_kinds.proofs.beside.besides.Given as goal

abbrev pub invariant-loop-item : goal.invariant-loop-item
invariant-loop-item l = l.besides.items ≡ map (beside_in (items_in l.items)) (items_in (take l.item-index l.items))
