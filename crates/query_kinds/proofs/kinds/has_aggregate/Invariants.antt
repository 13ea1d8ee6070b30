use Rattle.std.proofs.Common.{◌≡◌, drop, map}
use Rattle.std.specs.List.{list_any}
use Rattle.sql_text.specs.Tree.{item_of}
use Rattle.query_kinds.specs.Kinds.{is_aggregate}
use Rattle.query_kinds.proofs.kinds.has_aggregate.Given as goal

abbrev pub invariant-loop-item : goal.invariant-loop-item
invariant-loop-item l = list_any is_aggregate (map item_of (drop l.item-index l.items)) ≡ list_any is_aggregate (map item_of l.items)
