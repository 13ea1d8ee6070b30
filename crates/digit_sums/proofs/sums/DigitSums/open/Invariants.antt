use Rattle.std.proofs.Common.{◌≡◌, length}
use Rattle.digit_sums.proofs.sums.DigitSums.open.Given as goal

abbrev pub invariant-loop : goal.invariant-loop
invariant-loop l = length l.sums.items ≡ l.counter
