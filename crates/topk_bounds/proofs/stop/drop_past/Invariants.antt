use Rattle.std.proofs.Common.{◌≡◌, ◌*◌, min, length}
use Rattle.topk_bounds.specs.Standings.{count_rows, is_in}
use Rattle.topk_bounds.specs.Stopping.{Stops}
use Rattle.topk_bounds.proofs.stop.drop_past.Given as goal

abbrev pub invariant-loop-block : goal.invariant-loop-block
invariant-loop-block l = record {
  rows : length l.level ≡ length l.fn.level;
  seen : l.seen ≡ count_rows (min (length l.counted) (512 * l.block)) (is_in l.counted);
  stops : Stops l.wanted l.counted 0 (min (length l.counted) (512 * l.block)) l.fn.level l.level;
}
