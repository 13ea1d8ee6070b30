use Rattle.std.proofs.Common.{◌≤◌}
use Rattle.product_sums.proofs.moves.count_moved_blocks.Given as goal

abbrev pub invariant-loop-block : goal.invariant-loop-block
invariant-loop-block l = l.moved ≤ l.block
