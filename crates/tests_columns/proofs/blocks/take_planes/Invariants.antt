use Rattle.std.proofs.Common.{◌≡◌}
use Rattle.tests_columns.proofs.blocks.take_planes.Given as goal

abbrev pub invariant-loop : goal.invariant-loop
invariant-loop l = l.columns.frame ≡ l.initial.columns.frame
