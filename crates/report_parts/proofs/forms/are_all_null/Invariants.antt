use Rattle.std.proofs.Common.{◌≡◌, drop}
use Rattle.report_parts.specs.Combined.{are_all_null}
use Rattle.report_parts.proofs.forms.are_all_null.Given as goal

abbrev pub invariant-loop-answer : goal.invariant-loop-answer
invariant-loop-answer l = are_all_null (drop l.answer-index l.answers) ≡ are_all_null l.answers
