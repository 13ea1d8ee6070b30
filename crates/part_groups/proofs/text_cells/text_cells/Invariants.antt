use Rattle.std.proofs.Common.{◌≡◌, take}
use Rattle.part_groups.specs.Cells.{slices}
use Rattle.part_groups.specs.Texts.{text_cells}
use Rattle.part_groups.proofs.text_cells.text_cells.Given as goal

abbrev pub invariant-loop-groups : goal.invariant-loop-groups
invariant-loop-groups l = l.cells.items ≡ text_cells (slices (take l.groups-index l.parts))
