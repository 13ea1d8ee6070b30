use Rattle.std.proofs.Common.{◌&&◌, not}
use Rattle.std.specs.Simd.Lanes.{zip2}
use Rattle.plane_kernels.proofs.Evens.{NoneBefore}
use Rattle.plane_kernels.proofs.row_bits.RowBits.first_past_by_rows.Given as goal

abbrev pub invariant-loop-row : goal.invariant-loop-row
invariant-loop-row l = NoneBefore l.row (zip2 (λ a b. a && not b) l.self (zip2 (λ a b. a && not b) l.within l.without))
