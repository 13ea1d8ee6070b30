use Rattle.std.proofs.Common.{◌<◌, ℕ}
use Rattle.plane_schedule.specs.Choices.{IsUnread, outlook_of}
use Rattle.plane_schedule.proofs.policies.in_order.Given as goal

abbrev pub invariant-loop-column : goal.invariant-loop-column
invariant-loop-column l = (k : ℕ) → k < l.column → ¬ IsUnread (outlook_of l.progress) k
