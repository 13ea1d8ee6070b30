use Rattle.std.proofs.Common.{◌≡◌, ◌++◌, ◌*◌, ◌/◌, length, take, drop}
use Rattle.plane_kernels.specs.Bytes.{bytes_of_words}
use Rattle.plane_kernels.proofs.Evens.{even_words}
use Rattle.plane_kernels.proofs.bytes.store_even.Given as goal

abbrev pub invariant-loop-at : goal.invariant-loop-at
invariant-loop-at l = l.out ≡ bytes_of_words (take l.at (even_words (length l.fn.out / 8) l.rows l.bit)) ++ drop (8 * l.at) l.fn.out
