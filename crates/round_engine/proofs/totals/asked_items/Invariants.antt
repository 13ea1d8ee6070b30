use Rattle.std.proofs.Common.{◌≡◌, length}
use Rattle.round_engine.proofs.totals.asked_items.Given as goal

abbrev pub invariant-loop-i : goal.invariant-loop-i
invariant-loop-i l = length l.asked ≡ 16
