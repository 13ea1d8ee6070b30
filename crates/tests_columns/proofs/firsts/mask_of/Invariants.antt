use Rattle.std.proofs.Common.{◌≡◌, length}
use Rattle.tests_columns.proofs.firsts.mask_of.Given as goal

abbrev pub invariant-loop-row : goal.invariant-loop-row
invariant-loop-row l = length l.mask ≡ length l.marks
