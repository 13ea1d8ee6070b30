use Rattle.std.proofs.Common.{◌≡◌, ◌++◌, drop, length}
use Rattle.std.specs.List.{All}
use Rattle.report_text.specs.Answers.{CanBeWritten}
use Rattle.report_parts.specs.Beside.{answers_by}
use Rattle.report_parts.proofs.group_besides.answers_beside.Given as goal

abbrev pub invariant-loop-answer : goal.invariant-loop-answer
invariant-loop-answer l =
    (l.narrowed.items ++ answers_by l.answers l.besides (length l.narrowed.items) (drop l.answer-index l.answers) ≡ answers_by l.answers l.besides 0 l.answers)
    × All CanBeWritten l.narrowed.items
    × (length l.narrowed.items ≡ l.answer-index)
