use Rattle.std.proofs.Common.{◌≡◌, true, false}
use Rattle.round_engine.specs.Engines.{stage_of}
use Rattle.round_engine.specs.Moves.{is_marked}
use Rattle.round_engine.specs.Selected.{is_by_masks}
use Rattle.round_engine.specs.Totals.{IsFilledBelow, IsFilledIf}
use Rattle.round_engine.proofs.Walks.{Walks}
use Rattle.round_engine.proofs.totals.set_each.Given as goal

abbrev pub invariant-loop-i : goal.invariant-loop-i
invariant-loop-i l =
    Walks (λ i item running. IsFilledIf (is_marked l.added i) (stage_of l.query l.columns) item l.columns.frame.rows running)
    (λ i item running. (running.kind ≡ item.kind) × (running.room ≡ 1)
    × (is_marked l.marks i ≡ true → is_by_masks l.columns.frame item ≡ false → IsFilledBelow (stage_of l.query l.columns) item l.columns.frame.rows running)) l.query.items l.runnings l.i
