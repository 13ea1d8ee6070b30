use Rattle.std.proofs.Common.{◌≡◌, take}
use Rattle.report_parts.specs.Entries.{extras_of}
use Rattle.report_parts.proofs.entry.extras_of.Given as goal

abbrev pub invariant-loop-entry : goal.invariant-loop-entry
invariant-loop-entry l = l.extras.items ≡ extras_of (take l.entry-index l.entries)
