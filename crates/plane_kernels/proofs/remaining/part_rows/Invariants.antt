use Rattle.std.proofs.Common.{◌≡◌, ◌*◌, ◌||◌, not, length}
use Rattle.std.specs.Simd.Lanes.{zip2}
use Rattle.plane_kernels.specs.Remaining.{AreBlocksOf}
use Rattle.plane_kernels.specs.Rows.{kept_rows}
use Rattle.plane_kernels.proofs.RemainingRows.{AreDoneBelow}
use Rattle.plane_kernels.proofs.remaining.part_rows.Given as goal

abbrev pub invariant-loop-block : goal.invariant-loop-block
invariant-loop-block l = record {
  count : length l.blocks ≡ length l.fn.blocks;
  blocks : AreBlocksOf l.rows l.blocks;
  done : AreDoneBelow (512 * l.block) l.fn.rows (kept_rows l.bit l.fn.rows l.plane) l.rows;
  added : AreDoneBelow (512 * l.block) l.fn.others (zip2 (λ a b. a || b) l.fn.others (kept_rows (not l.bit) l.fn.rows l.plane)) l.others;
}
