use Rattle.std.proofs.Common.{List, ◌∷◌, length}
use Rattle.shard_groups.specs.Lines.{AreJoining, AreLines}
use Rattle.shard_groups.specs.declared.keys.Span.{Span}
use Rattle.shard_groups.proofs.lines.add.Given as goal

abbrev pub invariant-loop-at : goal.invariant-loop-at
invariant-loop-at l = (cells : List (List Span)) → AreLines cells l.fn.lines.items → AreJoining (l.cell ∷ cells) l.line l.lines.items

abbrev pub decreases-loop-at : goal.decreases-loop-at
decreases-loop-at l = length l.lines.items
