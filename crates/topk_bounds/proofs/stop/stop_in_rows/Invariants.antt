use Rattle.std.proofs.Common.{◌≡◌, length}
use Rattle.topk_bounds.specs.Standings.{count_rows, is_in}
use Rattle.topk_bounds.specs.Stopping.{Stops}
use Rattle.topk_bounds.proofs.stop.stop_in_rows.Given as goal

abbrev pub invariant-loop-row : goal.invariant-loop-row
invariant-loop-row l = record {
  rows : length l.level ≡ length l.fn.level;
  seen : l.seen ≡ count_rows l.row (is_in l.counted);
  stops : Stops l.wanted l.counted l.from l.row l.fn.level l.level;
}
