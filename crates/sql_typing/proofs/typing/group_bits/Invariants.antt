-- The planes of the groups so far, at most 65 for each.
use Rattle.std.proofs.Common.{◌≡◌, ◌≤◌, ◌*◌, map, take}
use Rattle.std.specs.List.{sum}
use Rattle.sql_typing.specs.Faults.{planes_at}
use Rattle.sql_typing.proofs.typing.group_bits.Given as goal

abbrev pub invariant-loop-number : goal.invariant-loop-number
invariant-loop-number l = record {
  bits : l.bits ≡ sum (map (planes_at l.table l.columns) (take l.number-index l.groups));
  few : l.bits ≤ 65 * l.number-index;
}
