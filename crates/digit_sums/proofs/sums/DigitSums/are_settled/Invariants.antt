use Rattle.std.proofs.Common.{◌≡◌, ℕ, ◌<◌, Some, slice_get}
use Rattle.digit_sums.specs.declared.ends.DigitEnds.{DigitEnds}
use Rattle.digit_sums.specs.Digits.{IsKeptBy, RowDigits, tally_by}
use Rattle.digit_sums.proofs.sums.DigitSums.are_settled.Given as goal

abbrev pub invariant-loop-cell : goal.invariant-loop-cell
invariant-loop-cell l = (k : ℕ) (kept cell : RowDigits) (ends : DigitEnds) → k < l.cell → slice_get l.self.kept k ≡ Some kept → IsKeptBy l.self.outer kept cell → tally_by ends kept ≡ tally_by ends cell
