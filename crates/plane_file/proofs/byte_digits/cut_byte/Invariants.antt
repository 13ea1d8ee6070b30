-- What holds as blocks are cut: those so far are.
use Rattle.std.proofs.Common.{◌≡◌, ◌++◌, length, take, drop}
use Rattle.plane_file.specs.ByteDigits.{digit_blocks}
use Rattle.plane_file.proofs.byte_digits.cut_byte.Given as goal

abbrev pub invariant-loop-block : goal.invariant-loop-block
invariant-loop-block l = l.blocks ≡ take l.block (digit_blocks (length l.fn.blocks) l.byte l.cells) ++ drop l.block l.fn.blocks
