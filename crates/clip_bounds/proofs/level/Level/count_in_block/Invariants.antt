use Rattle.clip_bounds.proofs.Counting.{AreAtDigits}
use Rattle.clip_bounds.proofs.level.Level.count_in_block.Given as goal

abbrev pub invariant-loop-j : goal.invariant-loop-j
invariant-loop-j l = AreAtDigits l.known l.mask l.self.prefix l.block l.j l.rows
