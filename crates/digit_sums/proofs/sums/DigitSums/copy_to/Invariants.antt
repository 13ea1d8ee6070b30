use Rattle.std.proofs.Common.{◌≡◌, ◌<◌, ℕ, length, slice_get}
use Rattle.digit_sums.proofs.sums.DigitSums.copy_to.Given as goal

abbrev pub invariant-loop-cell : goal.invariant-loop-cell
invariant-loop-cell l = record {
  kind : l.running.kind ≡ l.initial.running.kind;
  room : l.running.room ≡ l.initial.running.room;
  count : length l.running.cells ≡ length l.initial.running.cells;
  done : (k : ℕ) → k < l.cell → slice_get l.running.cells k ≡ slice_get l.self.tallies.cells k;
}
