use Rattle.std.proofs.Common.{◌≡◌, map, take}
use Rattle.part_groups.specs.Cells.{slices}
use Rattle.report_parts.specs.Rounds.{groups_in}
use Rattle.report_parts.proofs.groups.all_groups_in.Given as goal

abbrev pub invariant-loop-part : goal.invariant-loop-part
invariant-loop-part l = slices l.groups.items ≡ map (groups_in l.round) (take l.part-index l.parts)
