use Rattle.std.proofs.Common.{◌≡◌, ◌++◌, drop}
use Rattle.part_groups.specs.Texts.{texts_from}
use Rattle.part_groups.proofs.texts.texts_for.Given as goal

abbrev pub invariant-loop-item : goal.invariant-loop-item
invariant-loop-item l =
    l.texts.items ++ texts_from l.item (drop l.item l.kinds) l.line l.parts ≡ texts_from 0 l.kinds l.line l.parts
