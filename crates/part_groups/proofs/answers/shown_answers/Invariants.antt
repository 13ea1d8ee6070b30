use Rattle.std.proofs.Common.{◌≡◌, ◌++◌, drop, length, map}
use Rattle.std.specs.List.{All}
use Rattle.report_text.specs.Answers.{CanBeWritten}
use Rattle.shard_groups.specs.Groups.{said_of}
use Rattle.part_groups.specs.Shown.{answers_from}
use Rattle.part_groups.proofs.answers.shown_answers.Given as goal

abbrev pub invariant-loop-number : goal.invariant-loop-number
invariant-loop-number l =
    (l.answers.items ++ answers_from l.number l.forms (map said_of (drop l.number l.items)) ≡ answers_from 0 l.forms (map said_of l.items))
    × All CanBeWritten l.answers.items × (length l.answers.items ≡ l.number)
