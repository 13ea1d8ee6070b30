use Rattle.std.proofs.Common.{◌≡◌, take}
use Rattle.report_parts.specs.Entries.{answers_of}
use Rattle.report_parts.proofs.entry.answers_of.Given as goal

abbrev pub invariant-loop-entry : goal.invariant-loop-entry
invariant-loop-entry l = l.answers.items ≡ answers_of (take l.entry-index l.entries)
