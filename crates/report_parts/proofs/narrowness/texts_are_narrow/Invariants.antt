use Rattle.std.proofs.Common.{◌≡◌, drop}
use Rattle.std.specs.List.{list_all}
use Rattle.report_parts.specs.Narrowness.{is_narrow_text}
use Rattle.report_parts.proofs.narrowness.texts_are_narrow.Given as goal

abbrev pub invariant-loop-text : goal.invariant-loop-text
invariant-loop-text l = list_all is_narrow_text (drop l.text-index l.texts) ≡ list_all is_narrow_text l.texts
