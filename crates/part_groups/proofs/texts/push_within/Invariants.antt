use Rattle.std.proofs.Common.{◌≡◌, ◌++◌, drop}
use Rattle.part_groups.specs.Texts.{texts_within}
use Rattle.part_groups.proofs.texts.push_within.Given as goal

abbrev pub invariant-loop-cell : goal.invariant-loop-cell
invariant-loop-cell l =
    l.texts.items ++ texts_within l.item l.line (drop l.cell-index l.cells) ≡ l.fn.texts.items ++ texts_within l.item l.line l.cells
