use Rattle.std.proofs.Common.{◌≡◌, drop}
use Rattle.std.specs.List.{list_all}
use Rattle.report_parts.specs.Narrowness.{is_narrow_entry}
use Rattle.report_parts.proofs.narrowness.are_narrow.Given as goal

abbrev pub invariant-loop-entry : goal.invariant-loop-entry
invariant-loop-entry l = list_all (is_narrow_entry l.width) (drop l.entry-index l.entries) ≡ list_all (is_narrow_entry l.width) l.entries
