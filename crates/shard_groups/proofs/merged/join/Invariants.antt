use Rattle.std.proofs.Common.{◌∷◌, length}
use Rattle.shard_groups.specs.Steps.{AreNarrow}
use Rattle.shard_groups.proofs.merged.join.Given as goal

abbrev pub invariant-loop-last : goal.invariant-loop-last
invariant-loop-last l = AreNarrow (l.cell ∷ l.fn.lines.items) (l.line ∷ l.lines.items)

abbrev pub decreases-loop-last : goal.decreases-loop-last
decreases-loop-last l = length l.lines.items
