use Rattle.avg_exact.proofs.RowPasses.{CutTurns, HasLeast}
use Rattle.avg_exact.proofs.passes.least_above.Given as goal

abbrev pub invariant-loop-row : goal.invariant-loop-row
invariant-loop-row l = record { whole : HasLeast l.engine l.item l.end l.over l.row l.least; turns : CutTurns l.least }
