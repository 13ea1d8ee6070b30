use Rattle.round_engine.proofs.FewCells.{ArePartsBelow}
use Rattle.round_engine.proofs.presence_counts.copy_counts.Given as goal

abbrev pub invariant-loop-cell : goal.invariant-loop-cell
invariant-loop-cell l = ArePartsBelow l.query l.item l.columns l.cell l.running
