use Rattle.std.proofs.Common.{◌≡◌, ◌++◌, drop}
use Rattle.report_parts.specs.Reports.{answer_lines}
use Rattle.report_parts.proofs.groups.push_answers.Given as goal

abbrev pub invariant-loop-place : goal.invariant-loop-place
invariant-loop-place l =
    l.text.items ++ answer_lines l.place l.texts (drop l.place l.answers) ≡ l.fn.text.items ++ answer_lines 0 l.texts l.answers
