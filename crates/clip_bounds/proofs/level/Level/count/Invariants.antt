use Rattle.std.proofs.Common.{◌≡◌, ◌==◌, ◌*◌, ◌≤◌, cond}
use Rattle.aggregates.proofs.BlockSums.{sum_before}
use Rattle.clip_bounds.proofs.level.Level.count.Given as goal

abbrev pub invariant-loop-block : goal.invariant-loop-block
invariant-loop-block l =
    (l.count ≡ sum_before l.mask l.known.known.prefixes (λ p. cond (p == l.self.prefix) 1 0) l.block) × (l.count ≤ l.block * 512)
