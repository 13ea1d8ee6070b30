use Rattle.std.proofs.Common.{◌≡◌, ◌≤◌, ◌<◌, ℕ, ◌-ℤ◌, unsigned_abs, get_or}
use Rattle.daq_table.specs.Raised.{lowered}
use Rattle.daq_table.proofs.raised.become_distances.Given as goal

abbrev pub invariant-loop-number : goal.invariant-loop-number
invariant-loop-number l = record {
  done : (k : ℕ) → k < l.number-index → get_or l.numbers k 0 ≡ unsigned_abs (lowered (get_or l.initial.numbers k 0) -ℤ l.base);
  left : (k : ℕ) → l.number-index ≤ k → get_or l.numbers k 0 ≡ get_or l.initial.numbers k 0;
}
