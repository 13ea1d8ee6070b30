use Rattle.std.proofs.Common.{◌≡◌, drop}
use Rattle.part_groups.specs.Cells.{slices}
use Rattle.part_groups.specs.Texts.{tell_texts}
use Rattle.part_groups.proofs.text_cells.tell_texts.Given as goal

abbrev pub invariant-loop-groups : goal.invariant-loop-groups
invariant-loop-groups l = tell_texts (slices (drop l.groups-index l.parts)) ≡ tell_texts (slices l.parts)
