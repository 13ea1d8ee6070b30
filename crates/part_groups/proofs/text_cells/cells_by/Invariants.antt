use Rattle.std.proofs.Common.{◌≡◌, map, take}
use Rattle.part_groups.specs.Texts.{text_cell}
use Rattle.part_groups.proofs.text_cells.cells_by.Given as goal

abbrev pub invariant-loop-group : goal.invariant-loop-group
invariant-loop-group l = l.cells.items ≡ map text_cell (take l.group-index l.groups)
