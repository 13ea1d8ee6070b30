use Rattle.std.proofs.Common.{◌≡◌, ◌++◌, drop}
use Rattle.report_parts.specs.Reports.{group_lines}
use Rattle.report_parts.proofs.groups.push_groups.Given as goal

abbrev pub invariant-loop-group : goal.invariant-loop-group
invariant-loop-group l = l.text.items ++ group_lines (drop l.group-index l.groups) ≡ l.fn.text.items ++ group_lines l.groups
