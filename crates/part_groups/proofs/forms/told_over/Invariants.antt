use Rattle.std.proofs.Common.{◌≡◌, take}
use Rattle.part_groups.specs.Cells.{slices}
use Rattle.part_groups.specs.Forms.{told_over}
use Rattle.part_groups.proofs.forms.told_over.Given as goal

abbrev pub invariant-loop-groups : goal.invariant-loop-groups
invariant-loop-groups l =
    l.forms.items ≡ told_over l.places l.number (slices (take l.groups-index l.parts))
