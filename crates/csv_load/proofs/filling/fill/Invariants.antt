use Rattle.std.proofs.Common.{◌≡◌, ◌+◌, ◌++◌, not, drop, length}
use Rattle.std.specs.List.{count_by}
use Rattle.csv_load.specs.States.{filled}
use Rattle.csv_load.proofs.filling.fill.Given as goal

-- what is done and what is left are the whole, and the numbers that are left are as many as the places
abbrev pub invariant-loop-mark : goal.invariant-loop-mark
invariant-loop-mark l =
    (l.cells.items ++ filled (drop l.mark-index l.marks) (drop l.next l.numbers) ≡ filled l.marks l.numbers)
    × (l.next + count_by not (drop l.mark-index l.marks) ≡ length l.numbers)
