use Rattle.std.proofs.Common.{◌≡◌, drop}
use Rattle.report_parts.specs.Combined.{shared_form}
use Rattle.report_parts.proofs.forms.shared_form.Given as goal

abbrev pub invariant-loop-answer : goal.invariant-loop-answer
invariant-loop-answer l = shared_form (drop l.answer-index l.answers) ≡ shared_form l.answers
