use Rattle.std.proofs.Common.{◌≤◌, List, ◌++◌, drop, length}
use Rattle.shard_groups.specs.declared.keys.Span.{Span}
use Rattle.shard_groups.specs.Groups.{keys_in}
use Rattle.shard_groups.specs.Lines.{AreLines}
use Rattle.shard_groups.proofs.lines.add_all.Given as goal

abbrev pub invariant-loop-i : goal.invariant-loop-i
invariant-loop-i l =
    ((others : List (List Span)) → AreLines others l.fn.lines.items → AreLines (keys_in (drop l.i l.cells) ++ others) l.lines.items)
    × (l.i ≤ length l.cells)

abbrev pub decreases-loop-i : goal.decreases-loop-i
decreases-loop-i l = l.i
