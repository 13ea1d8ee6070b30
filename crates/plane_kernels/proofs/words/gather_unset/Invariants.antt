use Rattle.std.proofs.Common.{◌≡◌, map, not, take}
use Rattle.std.specs.Simd.Lanes.{mask_l}
use Rattle.plane_kernels.proofs.words.gather_unset.Given as goal

abbrev pub invariant-loop-i : goal.invariant-loop-i
invariant-loop-i l = l.word ≡ mask_l (map not (take l.i l.marks))
