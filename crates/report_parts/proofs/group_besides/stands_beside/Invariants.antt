use Rattle.std.proofs.Common.{◌≡◌, drop, is_some}
use Rattle.std.specs.List.{list_any}
use Rattle.report_parts.proofs.group_besides.stands_beside.Given as goal

abbrev pub invariant-loop-beside : goal.invariant-loop-beside
invariant-loop-beside l = list_any is_some (drop l.beside-index l.besides) ≡ list_any is_some l.besides
