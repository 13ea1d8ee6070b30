use Rattle.std.proofs.Common.{◌≡◌}
use Rattle.tests_rows.proofs.value_blocks.blocks_agree.Given as goal

abbrev pub invariant-loop-row : goal.invariant-loop-row
invariant-loop-row l = l.block.frame.columns ≡ l.columns.frame.columns
