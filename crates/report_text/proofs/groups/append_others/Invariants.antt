use Rattle.std.proofs.Common.{◌≡◌, ◌++◌, drop}
use Rattle.report_text.specs.Reading.{others_text}
use Rattle.report_text.proofs.groups.append_others.Given as goal

abbrev pub invariant-loop-span : goal.invariant-loop-span
invariant-loop-span l = l.text.items ++ others_text (drop l.span-index l.keys) ≡ l.fn.text.items ++ others_text l.keys
