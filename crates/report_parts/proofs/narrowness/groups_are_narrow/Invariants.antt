use Rattle.std.proofs.Common.{◌≡◌, drop}
use Rattle.std.specs.List.{list_all}
use Rattle.report_parts.specs.Narrowness.{is_narrow_group}
use Rattle.report_parts.proofs.narrowness.groups_are_narrow.Given as goal

abbrev pub invariant-loop-group : goal.invariant-loop-group
invariant-loop-group l = list_all (is_narrow_group l.width) (drop l.group-index l.groups) ≡ list_all (is_narrow_group l.width) l.groups
