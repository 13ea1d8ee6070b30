use Rattle.std.proofs.Common.{◌≡◌, ◌*◌, length}
use Rattle.plane_kernels.specs.Remaining.{AreBlocksOf}
use Rattle.plane_kernels.specs.Rows.{kept_rows}
use Rattle.plane_kernels.proofs.RemainingRows.{AreDoneBelow}
use Rattle.plane_kernels.proofs.remaining.keep_rows.Given as goal

abbrev pub invariant-loop-block : goal.invariant-loop-block
invariant-loop-block l = record {
  count : length l.blocks ≡ length l.fn.blocks;
  blocks : AreBlocksOf l.rows l.blocks;
  done : AreDoneBelow (512 * l.block) l.fn.rows (kept_rows l.bit l.fn.rows l.plane) l.rows;
}
