-- The items typed and those left give the same fault and the same items as at the start.
use Rattle.std.proofs.Common.{◌≡◌, ◌++◌, drop, map}
use Rattle.std.specs.List.{filter_map}
use Rattle.sql_text.specs.Tree.{item_of, name_of}
use Rattle.sql_typing.specs.Faults.{first_in, item_fault}
use Rattle.sql_typing.specs.Typing.{typed_item}
use Rattle.sql_typing.proofs.item.typed_list.Given as goal

abbrev pub invariant-loop-item : goal.invariant-loop-item
invariant-loop-item l = record {
  faults : first_in (item_fault l.table (map name_of l.groups)) (drop l.item-index (map item_of l.items)) ≡ first_in (item_fault l.table (map name_of l.groups)) (map item_of l.items);
  items : l.typed.items ++ filter_map (typed_item l.table l.columns) (drop l.item-index (map item_of l.items)) ≡ filter_map (typed_item l.table l.columns) (map item_of l.items);
}
