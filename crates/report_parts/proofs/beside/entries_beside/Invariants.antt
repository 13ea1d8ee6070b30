use Rattle.std.proofs.Common.{◌≡◌, ◌++◌, drop, length}
use Rattle.std.specs.List.{All}
use Rattle.report_parts.specs.Beside.{entries_by}
use Rattle.report_parts.specs.Combined.{HasEntryTexts}
use Rattle.report_parts.proofs.beside.entries_beside.Given as goal

abbrev pub invariant-loop-entry : goal.invariant-loop-entry
invariant-loop-entry l =
    (l.entries.items ++ entries_by l.block l.besides (length l.entries.items) (drop l.entry-index l.block) ≡ entries_by l.block l.besides 0 l.block)
    × All HasEntryTexts l.entries.items
    × (length l.entries.items ≡ l.entry-index)
