use Rattle.avg_exact.proofs.RowPasses.{CutTurns, HasGreatest}
use Rattle.avg_exact.proofs.passes.greatest.Given as goal

abbrev pub invariant-loop-row : goal.invariant-loop-row
invariant-loop-row l = record { whole : HasGreatest l.engine l.item l.end l.row l.found; turns : CutTurns l.found }
