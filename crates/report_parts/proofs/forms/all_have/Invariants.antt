use Rattle.std.proofs.Common.{◌≡◌, drop}
use Rattle.std.specs.List.{list_all}
use Rattle.report_parts.specs.Combined.{has_form}
use Rattle.report_parts.proofs.forms.all_have.Given as goal

abbrev pub invariant-loop-answer : goal.invariant-loop-answer
invariant-loop-answer l = list_all (has_form l.form) (drop l.answer-index l.answers) ≡ list_all (has_form l.form) l.answers
