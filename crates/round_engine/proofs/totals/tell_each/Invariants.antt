use Rattle.std.proofs.Common.{◌≢◌, true}
use Rattle.round_engine.specs.Engines.{stage_of}
use Rattle.round_engine.specs.KeptItems.{IsKeptOf}
use Rattle.round_engine.specs.Moves.{is_marked}
use Rattle.round_engine.specs.Selected.{HaveRows}
use Rattle.round_engine.specs.Totals.{IsTotal}
use Rattle.round_engine.proofs.Walks.{Walks}
use Rattle.round_engine.proofs.totals.tell_each.Given as goal

abbrev pub invariant-loop-i : goal.invariant-loop-i
invariant-loop-i l = record {
  walk :
      Walks (λ i item bound. is_marked l.marks i ≢ true → IsTotal (stage_of l.query l.columns) item bound)
      (λ i item bound. IsTotal (stage_of l.query l.columns) item bound)
      l.query.items l.bounds l.i;
  room : HaveRows l.columns.frame.rows l.masks;
  sums : Walks (λ i item kept. IsKeptOf (stage_of l.query l.columns) item kept) (λ i item kept. IsKeptOf (stage_of l.query l.columns) item kept) l.query.items l.kept l.i;
}
