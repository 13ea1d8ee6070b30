use Rattle.std.proofs.Common.{◌≡◌, ◌*◌, ◌≤◌, take, sum_by}
use Rattle.std.specs.Int.Count.{ones}
use Rattle.clip_bounds.proofs.level.count_rows.Given as goal

abbrev pub invariant-loop-k : goal.invariant-loop-k
invariant-loop-k l = (l.count ≡ sum_by ones (take l.k l.rows)) × (l.count ≤ l.k * 64)
