use Rattle.std.proofs.Common.{◌≡◌, ◌++◌, map, take}
use Rattle.part_groups.specs.Forms.{told_at}
use Rattle.part_groups.proofs.forms.tell.Given as goal

abbrev pub invariant-loop-group : goal.invariant-loop-group
invariant-loop-group l =
    l.forms.items ≡ l.fn.forms.items ++ map (told_at l.places l.number) (take l.group-index l.groups)
