use Rattle.std.proofs.Common.{◌≡◌}
use Rattle.tests_rows.proofs.value_blocks.agrees.Given as goal

abbrev pub invariant-loop : goal.invariant-loop
invariant-loop l = record {
  frame : l.columns.frame ≡ l.initial.columns.frame;
  same : l.block.frame.columns ≡ l.columns.frame.columns;
}
