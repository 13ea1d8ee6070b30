use Rattle.std.proofs.Common.{ℕ, ◌<◌, ◌^◌, ◌+◌}
use Rattle.plane_kernels.specs.Bytes.{word_in, word_rows}
use Rattle.plane_kernels.proofs.bytes.refuse_pad_bits.Given as goal

abbrev pub invariant-loop-i : goal.invariant-loop-i
invariant-loop-i l = (k : ℕ) → k < l.i → word_in l.bytes k < 2 ^ word_rows l.rows (l.first + k)
