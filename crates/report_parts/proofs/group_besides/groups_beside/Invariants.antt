use Rattle.std.proofs.Common.{◌≡◌}
use Rattle.std.specs.List.{All}
use Rattle.part_groups.specs.Combined.{IsShown}
use Rattle.report_parts.specs.Beside.{groups_beside}
use Rattle.report_parts.proofs.group_besides.groups_beside.Given as goal

abbrev pub invariant-loop-group : goal.invariant-loop-group
invariant-loop-group l = (l.narrowed.items ≡ groups_beside l.besides l.yielded) × All IsShown l.narrowed.items
