use Rattle.std.proofs.Common.{◌≡◌, ◌++◌, drop, length}
use Rattle.std.specs.List.{All}
use Rattle.report_parts.specs.Combined.{HasEntryTexts}
use Rattle.report_parts.specs.Faults.{CanSayBefore}
use Rattle.report_parts.specs.Reports.{entries_over}
use Rattle.report_parts.proofs.blocks.entries_over.Given as goal

abbrev pub invariant-loop-kind : goal.invariant-loop-kind
invariant-loop-kind l =
    (l.entries.items ++ entries_over l.round (length l.entries.items) (drop l.kind-index l.kinds) l.parts ≡ entries_over l.round 0 l.kinds l.parts)
    × All HasEntryTexts l.entries.items
    × (length l.entries.items ≡ l.kind-index)
    × CanSayBefore l.kind-index l.round l.kinds l.parts
