use Rattle.std.proofs.Common.{◌≡◌, map, take}
use Rattle.std.specs.List.{All}
use Rattle.part_groups.specs.Cells.{told}
use Rattle.part_groups.specs.Combined.{IsShown}
use Rattle.part_groups.specs.Shown.{group_in}
use Rattle.part_groups.specs.Texts.{texts_with}
use Rattle.part_groups.proofs.combined.groups_in.Given as goal

abbrev pub invariant-loop-line : goal.invariant-loop-line
invariant-loop-line l =
    (l.groups.items ≡ map (λ line. group_in l.columns l.items (texts_with l.kinds l.cells) (told line)) (take l.line-index l.lines)) × All IsShown l.groups.items
