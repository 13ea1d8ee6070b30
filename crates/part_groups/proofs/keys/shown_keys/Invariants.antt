use Rattle.std.proofs.Common.{◌≡◌, ◌++◌, drop, length}
use Rattle.std.specs.List.{All}
use Rattle.report_text.specs.Keys.{IsShownSpan}
use Rattle.part_groups.specs.Shown.{shown_from}
use Rattle.part_groups.proofs.keys.shown_keys.Given as goal

abbrev pub invariant-loop-column : goal.invariant-loop-column
invariant-loop-column l =
    (l.keys.items ++ shown_from l.column (drop l.column l.forms) l.spans ≡ shown_from 0 l.forms l.spans) × All IsShownSpan l.keys.items
    × (length l.keys.items ≡ l.column)
