use Rattle.std.proofs.Common.{◌≡◌, drop}
use Rattle.report_parts.specs.Texts.{clips_of, tell_text}
use Rattle.report_parts.proofs.texts.tell_clip.Given as goal

abbrev pub invariant-loop-entry : goal.invariant-loop-entry
invariant-loop-entry l = tell_text (clips_of (drop l.entry-index l.entries)) ≡ tell_text (clips_of l.entries)
