use Rattle.std.proofs.Common.{◌≡◌, ◌≤◌, ◌-◌, ◌++◌, length, drop}
use Rattle.daq_table.specs.Schemas.{bad_place, declared_of, items_of}
use Rattle.daq_table.proofs.schema_items.read_items.Given as goal

abbrev pub invariant-items : goal.invariant-items
invariant-items l = record {
  within : l.at ≤ length l.text;
  good : bad_place l.at (items_of (drop l.at l.text)) ≡ bad_place 0 (items_of l.text);
  declared : l.items.items ++ declared_of (items_of (drop l.at l.text)) ≡ declared_of (items_of l.text);
}

abbrev pub decreases-items : goal.decreases-items
decreases-items l = length l.text - l.at
