use Rattle.std.proofs.Common.{◌≡◌, map, take}
use Rattle.shard_groups.specs.Groups.{said_of}
use Rattle.part_groups.specs.Cells.{said_by}
use Rattle.part_groups.proofs.cells.items_by.Given as goal

abbrev pub invariant-loop-answer : goal.invariant-loop-answer
invariant-loop-answer l =
    map said_of l.items.items ≡ map said_by (take l.answer-index l.answers)
