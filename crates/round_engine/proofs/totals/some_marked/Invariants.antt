use Rattle.std.proofs.Common.{◌≡◌, ℕ, ◌<◌, false}
use Rattle.round_engine.specs.Moves.{is_marked}
use Rattle.round_engine.proofs.totals.some_marked.Given as goal

abbrev pub invariant-loop-item : goal.invariant-loop-item
invariant-loop-item l = (item : ℕ) → item < l.item → is_marked l.marks item ≡ false
