use Rattle.std.proofs.Common.{◌≡◌, drop}
use Rattle.std.specs.List.{list_all}
use Rattle.report_parts.specs.Narrowness.{is_narrow}
use Rattle.report_parts.proofs.narrowness.answers_are_narrow.Given as goal

abbrev pub invariant-loop-answer : goal.invariant-loop-answer
invariant-loop-answer l = list_all (is_narrow l.width) (drop l.answer-index l.answers) ≡ list_all (is_narrow l.width) l.answers
