use Rattle.std.proofs.Common.{◌≡◌, drop}
use Rattle.report_parts.specs.Entries.{have_extras}
use Rattle.report_parts.proofs.entry.have_extras.Given as goal

abbrev pub invariant-loop-entry : goal.invariant-loop-entry
invariant-loop-entry l = have_extras (drop l.entry-index l.entries) ≡ have_extras l.entries
