use Rattle.std.proofs.Common.{◌≡◌, ◌++◌, ◌*◌, take, drop}
use Rattle.plane_kernels.specs.Bytes.{bytes_of_words}
use Rattle.plane_kernels.proofs.bytes.store_words.Given as goal

abbrev pub invariant-loop-i : goal.invariant-loop-i
invariant-loop-i l = l.out ≡ bytes_of_words (take l.i l.words) ++ drop (8 * l.i) l.fn.out
