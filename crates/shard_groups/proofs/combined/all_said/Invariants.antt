use Rattle.std.proofs.Common.{◌≡◌, ◌++◌, All, drop, length, map}
use Rattle.shard_groups.specs.Groups.{FitsSaid, said_from, said_of}
use Rattle.shard_groups.proofs.combined.all_said.Given as goal

abbrev pub invariant-loop-item : goal.invariant-loop-item
invariant-loop-item l =
    (map said_of l.bounds.items ++ said_from l.item (drop l.item l.kinds) l.line l.shards ≡ said_from 0 l.kinds l.line l.shards)
    × All FitsSaid (map said_of l.bounds.items) × (length l.bounds.items ≡ l.item)
