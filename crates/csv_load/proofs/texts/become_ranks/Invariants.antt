use Rattle.std.proofs.Common.{◌≡◌, ◌≤◌, ◌<◌, ℕ, get_or}
use Rattle.csv_load.proofs.texts.become_ranks.Given as goal

abbrev pub invariant-loop-number : goal.invariant-loop-number
invariant-loop-number l = record {
  done : (k : ℕ) → k < l.number-index → get_or l.numbers k 0 ≡ get_or l.ranks (get_or l.initial.numbers k 0) 0;
  left : (k : ℕ) → l.number-index ≤ k → get_or l.numbers k 0 ≡ get_or l.initial.numbers k 0;
}
