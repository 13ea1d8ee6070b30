use Rattle.std.proofs.Common.{◌≡◌, map, take}
use Rattle.query_kinds.specs.Kinds.{items_in, kind_of}
use Rattle.query_kinds.proofs.kinds.kinds_of.Given as goal

abbrev pub invariant-loop-item : goal.invariant-loop-item
invariant-loop-item l = l.kinds.items ≡ map kind_of (items_in (take l.item-index l.items))
