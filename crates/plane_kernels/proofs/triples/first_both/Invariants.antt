use Rattle.std.proofs.Common.{◌≡◌, drop}
use Rattle.std.specs.Simd.Lanes.{zip2}
use Rattle.std.specs.Int.Bits.{bit_and}
use Rattle.plane_kernels.specs.Words.{first_bit}
use Rattle.plane_kernels.proofs.triples.first_both.Given as goal

abbrev pub invariant-loop-i : goal.invariant-loop-i
invariant-loop-i l = first_bit 0 (zip2 bit_and l.words l.other) ≡ first_bit l.i (drop l.i (zip2 bit_and l.words l.other))
