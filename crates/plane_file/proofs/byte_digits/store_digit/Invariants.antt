-- What holds as words are written: those so far are.
use Rattle.std.proofs.Common.{◌≡◌, ◌++◌, ◌*◌, take, drop}
use Rattle.plane_kernels.specs.Bytes.{bytes_of_words}
use Rattle.plane_file.specs.ByteDigits.{words_at}
use Rattle.plane_file.proofs.byte_digits.store_digit.Given as goal

abbrev pub invariant-loop-i : goal.invariant-loop-i
invariant-loop-i l = l.out ≡ bytes_of_words (take l.i (words_at l.place l.blocks)) ++ drop (8 * l.i) l.fn.out
