use Rattle.std.proofs.Common.{◌≡◌, ℕ, ◌+◌, ◌*◌, ◌^◌, ◌<◌, ◌≤◌, get_or}
use Rattle.std.specs.Simd.Lanes.{zip2}
use Rattle.known_column.proofs.blocks.append_digits.Given as goal

abbrev pub invariant-loop-i : goal.invariant-loop-i
invariant-loop-i l = record {
  done : (k : ℕ) → k < l.i → get_or l.numbers k 0 ≡ get_or (zip2 (λ number digit. number * 2 ^ l.count + digit) l.initial.numbers l.digits) k 0;
  left : (k : ℕ) → l.i ≤ k → get_or l.numbers k 0 ≡ get_or l.initial.numbers k 0;
}
