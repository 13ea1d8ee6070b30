use Rattle.std.proofs.Common.{◌≡◌, drop, map}
use Rattle.std.specs.List.{list_all}
use Rattle.sql_text.specs.Tree.{item_of}
use Rattle.query_kinds.specs.Kinds.{is_aggregate}
use Rattle.query_kinds.proofs.kinds.are_aggregates.Given as goal

abbrev pub invariant-loop-item : goal.invariant-loop-item
invariant-loop-item l = list_all is_aggregate (map item_of (drop l.item-index l.items)) ≡ list_all is_aggregate (map item_of l.items)
