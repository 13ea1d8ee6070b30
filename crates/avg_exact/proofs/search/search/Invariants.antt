use Rattle.std.proofs.Common.{◌≡◌, ◌≤◌, Some, pos, ◌*ℤ◌, ◌≤ℤ◌, nat_abs, ◌<◌, ◌^◌}
use Rattle.avg_exact.specs.Passes.{all_rows, tally_of}
use Rattle.avg_exact.proofs.search.search.Given as goal

abbrev pub invariant-loop-best : goal.invariant-loop-best
invariant-loop-best l = record {
  tallied : l.best ≡ tally_of (Some l.over) (all_rows l.engine l.item l.end);
  some : 1 ≤ l.best.rows;
  few : l.over.den ≤ l.engine.frame.rows;
  rises : (l.over.num *ℤ pos l.best.rows) ≤ℤ (l.best.sum *ℤ pos l.over.den);
  turns : nat_abs l.best.sum < 2 ^ 127;
}

abbrev pub decreases-loop-best : goal.decreases-loop-best
decreases-loop-best l = l.best.taken
