use Rattle.std.proofs.Common.{◌≡◌, map, take}
use Rattle.part_groups.specs.Cells.{told, told_by}
use Rattle.part_groups.proofs.cells.cells_of.Given as goal

abbrev pub invariant-loop-group : goal.invariant-loop-group
invariant-loop-group l =
    map told l.cells.items ≡ map told_by (take l.group-index l.groups)
