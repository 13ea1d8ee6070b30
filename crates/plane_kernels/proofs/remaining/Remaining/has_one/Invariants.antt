use Rattle.std.proofs.Common.{◌≡◌, ◌*◌, ◌<◌, ℕ, true, false, get_or}
use Rattle.plane_kernels.specs.Rows.{kept_rows}
use Rattle.plane_kernels.proofs.remaining.Remaining.has_one.Given as goal

abbrev pub invariant-loop-block : goal.invariant-loop-block
invariant-loop-block l = (r : ℕ) → r < 512 * l.block → get_or (kept_rows true l.self-inside.rows l.plane) r false ≡ false
