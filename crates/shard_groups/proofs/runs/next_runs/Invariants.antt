use Rattle.std.proofs.Common.{List, ◌∷◌, take}
use Rattle.shard_groups.specs.declared.keys.Span.{Span}
use Rattle.shard_groups.specs.Cuts.{AreNear, AreOn}
use Rattle.shard_groups.specs.Lines.{AreApart}
use Rattle.shard_groups.proofs.runs.next_runs.Given as goal

abbrev pub invariant-loop-shard : goal.invariant-loop-shard
invariant-loop-shard l =
    (lines : List (List Span)) → AreApart (l.line ∷ lines) → AreOn (l.line ∷ lines) l.shards l.runs →
    AreNear l.line (take l.shard l.shards) l.next.items × AreOn lines (take l.shard l.shards) l.next.items
