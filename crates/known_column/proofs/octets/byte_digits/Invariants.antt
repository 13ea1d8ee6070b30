use Rattle.std.proofs.Common.{◌≡◌, replicate, take}
use Rattle.known_column.specs.BlockDigits.{digits_after}
use Rattle.known_column.proofs.octets.byte_digits.Given as goal

abbrev pub invariant-loop-word : goal.invariant-loop-word
invariant-loop-word l = l.sum ≡ digits_after (take l.word-index l.words) (replicate 64 0)
