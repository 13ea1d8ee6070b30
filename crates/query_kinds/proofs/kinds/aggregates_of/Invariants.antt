use Rattle.std.proofs.Common.{◌≡◌, filter, map, take}
use Rattle.sql_text.specs.Tree.{item_of}
use Rattle.query_kinds.specs.Kinds.{is_aggregate, items_in}
use Rattle.query_kinds.proofs.kinds.aggregates_of.Given as goal

abbrev pub invariant-loop-item : goal.invariant-loop-item
invariant-loop-item l = items_in l.found.items ≡ filter is_aggregate (map item_of (take l.item-index l.items))
