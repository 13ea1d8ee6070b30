use Rattle.std.proofs.Common.{length-set, ◌∙◌}
use Rattle.round_engine.proofs.totals.asked_items.Goals as goal

pub loop-i-preserved : goal.loop-i-preserved
loop-i-preserved c = length-set c.loop-i.asked c.loop-i.i _ ∙ c.loop-i.invariant
