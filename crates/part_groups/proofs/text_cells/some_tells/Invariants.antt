use Rattle.std.proofs.Common.{◌≡◌, drop, is_some}
use Rattle.std.specs.List.{list_any}
use Rattle.part_groups.specs.declared.group.Group.{Group}
use Rattle.part_groups.proofs.text_cells.some_tells.Given as goal

abbrev pub invariant-loop-group : goal.invariant-loop-group
invariant-loop-group l =
    list_any (λ (group : Group). list_any is_some group.texts) (drop l.group-index l.groups) ≡ list_any (λ group. list_any is_some group.texts) l.groups
