use Rattle.std.proofs.Common.{◌≡◌, ◌++◌, length, map, not, take, drop}
use Rattle.plane_kernels.specs.Words.{packed}
use Rattle.plane_kernels.proofs.words.gather_unset_words.Given as goal

abbrev pub invariant-loop-i : goal.invariant-loop-i
invariant-loop-i l = l.words ≡ take l.i (packed (length l.fn.words) (map not l.marks)) ++ drop l.i l.fn.words
