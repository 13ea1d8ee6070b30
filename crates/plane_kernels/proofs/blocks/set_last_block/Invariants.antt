use Rattle.std.proofs.Common.{◌≡◌, ◌-◌, ◌*◌, take}
use Rattle.std.specs.Simd.Lanes.{put_chunk}
use Rattle.plane_kernels.specs.Words.{trimmed}
use Rattle.plane_kernels.proofs.blocks.set_last_block.Given as goal

abbrev pub invariant-loop-i : goal.invariant-loop-i
invariant-loop-i l = l.words ≡ put_chunk (8 * l.block) l.fn.words (take l.i (trimmed (l.rows - 512 * l.block) l.eight))
