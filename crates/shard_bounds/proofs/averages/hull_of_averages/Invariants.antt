use Rattle.std.proofs.Common.{◌≡◌, ◌≤◌, drop, length, map}
use Rattle.query_model.specs.Bounds.{fractions_of}
use Rattle.shard_bounds.specs.Averages.{hull_of_averages}
use Rattle.shard_bounds.proofs.averages.hull_of_averages.Given as goal

abbrev pub invariant-loop-i : goal.invariant-loop-i
invariant-loop-i l = (fractions_of l.hull ≡ hull_of_averages (map fractions_of (drop l.i l.shards))) × (l.i ≤ length l.shards)

abbrev pub decreases-loop-i : goal.decreases-loop-i
decreases-loop-i l = l.i
