use Rattle.std.proofs.Common.{◌≡◌, take}
use Rattle.report_parts.specs.Texts.{texts_of}
use Rattle.report_parts.proofs.texts.texts_of.Given as goal

abbrev pub invariant-loop-entry : goal.invariant-loop-entry
invariant-loop-entry l = l.texts.items ≡ texts_of (take l.entry-index l.entries)
