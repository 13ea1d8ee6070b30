use Rattle.std.proofs.Common.{◌≡◌}
use Rattle.tests_columns.proofs.blocks.blocks_agree.Given as goal

abbrev pub invariant-loop-b : goal.invariant-loop-b
invariant-loop-b l = l.block.frame.columns ≡ l.columns.frame.columns
