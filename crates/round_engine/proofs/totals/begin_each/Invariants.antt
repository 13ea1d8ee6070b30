use Rattle.std.proofs.Common.{◌≡◌}
use Rattle.aggregates.specs.Runnings.{IsBlank}
use Rattle.round_engine.proofs.Walks.{Walks}
use Rattle.round_engine.proofs.totals.begin_each.Given as goal

abbrev pub invariant-loop-i : goal.invariant-loop-i
invariant-loop-i l = Walks (λ i item running. (running.kind ≡ item.kind) × (running.room ≡ 1)) (λ i item running. IsBlank running item.kind 1 1) l.query.items l.runnings l.i
