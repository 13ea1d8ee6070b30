use Rattle.std.proofs.Common.{◌≡◌, ◌≤◌, ◌-◌, length, replicate, take}
use Rattle.known_column.specs.BlockDigits.{digits_after}
use Rattle.known_column.proofs.blocks.word_digits.Given as goal

abbrev pub invariant-loop-read : goal.invariant-loop-read
invariant-loop-read l = record {
  within : l.read ≤ length l.words;
  digits : l.numbers ≡ digits_after (take l.read l.words) (replicate 64 0);
}

abbrev pub decreases-loop-read : goal.decreases-loop-read
decreases-loop-read l = length l.words - l.read
