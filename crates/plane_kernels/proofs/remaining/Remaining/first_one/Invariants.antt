use Rattle.std.proofs.Common.{◌≡◌, ◌*◌, ◌<◌, ℕ, false, get_or}
use Rattle.plane_kernels.proofs.remaining.Remaining.first_one.Given as goal

abbrev pub invariant-loop-block : goal.invariant-loop-block
invariant-loop-block l = (r : ℕ) → r < 512 * l.block → get_or l.self-inside.rows r false ≡ false
