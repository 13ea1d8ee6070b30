use Rattle.std.proofs.Common.{◌≡◌, take}
use Rattle.part_groups.specs.Cells.{keys_of}
use Rattle.part_groups.proofs.cells.keys_of.Given as goal

abbrev pub invariant-loop-span : goal.invariant-loop-span
invariant-loop-span l =
    l.keys.items ≡ keys_of (take l.span-index l.spans)
