use Rattle.product_sums.proofs.MovedSums.{AreMoved}
use Rattle.product_sums.proofs.moved_sums.move_sums.Given as goal

abbrev pub invariant-loop-block : goal.invariant-loop-block
invariant-loop-block l = AreMoved l.columns l.old l.new l.block l.pair l.sums
