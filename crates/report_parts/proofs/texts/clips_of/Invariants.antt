use Rattle.std.proofs.Common.{◌≡◌, take}
use Rattle.report_parts.specs.Texts.{clips_of}
use Rattle.report_parts.proofs.texts.clips_of.Given as goal

abbrev pub invariant-loop-entry : goal.invariant-loop-entry
invariant-loop-entry l = l.clips.items ≡ clips_of (take l.entry-index l.entries)
