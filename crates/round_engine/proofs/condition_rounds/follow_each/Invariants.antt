use Rattle.std.proofs.Common.{◌≡◌, slice_get, Some}
use Rattle.round_engine.specs.CellAnswers.{StandForCells}
use Rattle.round_engine.specs.Engines.{stage_of}
use Rattle.round_engine.specs.KeptCells.{AreKeptParts}
use Rattle.round_engine.specs.OneCell.{HoldMasks}
use Rattle.round_engine.proofs.Walks.{Walks}
use Rattle.round_engine.proofs.condition_rounds.follow_each.Given as goal

abbrev pub invariant-loop-i : goal.invariant-loop-i
invariant-loop-i l = record {
  same : l.block.frame.columns ≡ l.columns.frame.columns;
  masks : HoldMasks l.columns.frame.rows l.masks;
  walk :
      Walks (λ i item running. slice_get l.initial.runnings i ≡ Some running)
      (λ i item running. StandForCells (stage_of l.query l.columns) item running)
      l.query.items l.runnings l.i;
  kept : Walks (λ i item parts. AreKeptParts l.columns item parts) (λ i item parts. AreKeptParts l.columns item parts) l.query.items l.kept l.i;
}
