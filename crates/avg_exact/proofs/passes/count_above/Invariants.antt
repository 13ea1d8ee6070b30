use Rattle.avg_exact.proofs.RowPasses.{HasTally, IsSmallTally}
use Rattle.avg_exact.proofs.passes.count_above.Given as goal

abbrev pub invariant-loop-row : goal.invariant-loop-row
invariant-loop-row l = record { whole : HasTally l.engine l.item l.end l.over l.row l.tally; small : IsSmallTally l.engine l.item l.row l.tally }
