use Rattle.std.proofs.Common.{◌≡◌, length}
use Rattle.digit_sums.proofs.Cells.{AreFirst}
use Rattle.digit_sums.proofs.sums.DigitSums.begin.Given as goal

abbrev pub invariant-loop-cell : goal.invariant-loop-cell
invariant-loop-cell l = record {
  count : length l.self-inside.sums.items ≡ length l.initial.self-inside.sums.items;
  done : AreFirst l.certain l.self-inside.sums.items l.cell;
}
