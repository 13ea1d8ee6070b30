use Rattle.std.proofs.Common.{◌≤◌}
use Rattle.avg_exact.proofs.RowPasses.{HasUncertain}
use Rattle.avg_exact.specs.declared.passes.End.TheVariants.{High}
use Rattle.avg_exact.proofs.passes.count_uncertain.Given as goal

abbrev pub invariant-loop-row : goal.invariant-loop-row
invariant-loop-row l = record { whole : HasUncertain l.engine l.item High l.row l.count; few : l.count ≤ l.row }
