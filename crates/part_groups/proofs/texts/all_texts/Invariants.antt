use Rattle.std.proofs.Common.{◌≡◌, take}
use Rattle.part_groups.specs.Texts.{all_texts}
use Rattle.part_groups.proofs.texts.all_texts.Given as goal

abbrev pub invariant-loop-cells : goal.invariant-loop-cells
invariant-loop-cells l = l.texts.items ≡ all_texts l.item l.line (take l.cells-index l.parts)
