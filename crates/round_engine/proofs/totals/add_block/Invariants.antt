use Rattle.std.proofs.Common.{◌≡◌, ◌+◌, ◌*◌, min}
use Rattle.round_engine.specs.Engines.{stage_of}
use Rattle.round_engine.specs.Moves.{is_marked}
use Rattle.round_engine.specs.Totals.{IsFilledIf}
use Rattle.round_engine.proofs.Walks.{Walks}
use Rattle.round_engine.proofs.totals.add_block.Given as goal

abbrev pub invariant-loop-i : goal.invariant-loop-i
invariant-loop-i l = record {
  same : l.block.frame.columns ≡ l.columns.frame.columns;
  walk : Walks (λ i item running. IsFilledIf (is_marked l.marks i) (stage_of l.query l.columns) item (64 * l.number) running)
      (λ i item running. IsFilledIf (is_marked l.marks i) (stage_of l.query l.columns) item (min (64 * l.number + 64) l.columns.frame.rows) running)
      l.query.items l.runnings l.i;
}
