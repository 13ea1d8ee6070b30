use Rattle.std.proofs.Common.{◌≡◌, map, take}
use Rattle.part_groups.specs.Cells.{slices, told, told_by}
use Rattle.part_groups.proofs.cells.all_cells.Given as goal

abbrev pub invariant-loop-groups : goal.invariant-loop-groups
invariant-loop-groups l =
    map (map told) l.cells.items ≡ map (map told_by) (slices (take l.groups-index l.parts))
