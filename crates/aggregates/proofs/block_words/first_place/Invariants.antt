use Rattle.std.proofs.Common.{◌≡◌, ℕ, ◌-◌, ◌<◌, ◌≤◌}
use Rattle.std.specs.List.{slice_index}
use Rattle.aggregates.proofs.block_words.first_place.Given as goal

abbrev pub invariant-loop-k : goal.invariant-loop-k
invariant-loop-k l = (l.k ≤ 7) × ((i : ℕ) → i < l.k → slice_index l.words i ≡ 0)

abbrev pub decreases-loop-k : goal.decreases-loop-k
decreases-loop-k l = 7 - l.k
