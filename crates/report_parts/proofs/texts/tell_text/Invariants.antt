use Rattle.std.proofs.Common.{◌≡◌, drop}
use Rattle.report_parts.specs.Texts.{tell_text, texts_of}
use Rattle.report_parts.proofs.texts.tell_text.Given as goal

abbrev pub invariant-loop-entry : goal.invariant-loop-entry
invariant-loop-entry l = tell_text (texts_of (drop l.entry-index l.entries)) ≡ tell_text (texts_of l.entries)
